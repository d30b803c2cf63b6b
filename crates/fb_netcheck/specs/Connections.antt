-- The faults of connections.
use Rattle.std.specs.Prelude.{List, ◌++◌}
use Rattle.fb_tree.specs.{declared.kinds.UnitKind.{UnitKind}, declared.network.Connection.{Connection}}
use Rattle.fb_iface.specs.declared.fault.Fault.{Fault}
use Rattle.fb_netcheck.specs.{declared.ends.Position.TheVariants.{Source, Destination}, declared.ends.Target.{Target}, Ends.{target}, Settings.{NetworkPlace}}
use Rattle.fb_netcheck.specs.Sides.{end_faults, pass_through_faults}

-- the faults of a connection whose ends name these
abbrev pub joined_faults : UnitKind → Connection → Target → Target → List Fault
joined_faults kind c source destination =
    end_faults Source c.source source ++ end_faults Destination c.destination destination ++ pass_through_faults kind c source destination

abbrev pub connection_faults : NetworkPlace → Connection → List Fault
connection_faults here c = joined_faults here.kind c (target here c.sort c.source) (target here c.sort c.destination)
