-- The faults of the ends of connections.
use Rattle.std.specs.Prelude.{Bool, true, false, ◌&&◌, List, [], ◌∷◌, if◌then◌else◌}
use Rattle.fb_tree.specs.{Text.declared.token.Span.{Span}, declared.kinds.UnitKind.{UnitKind}, declared.network.Connection.{Connection}}
use Rattle.fb_tree.specs.declared.network.End.{End}
use Rattle.fb_tree.specs.declared.kinds.UnitKind.TheVariants as kinds
use Rattle.fb_iface.specs.{Ports.{same_side}, declared.code.Code.{Code}, declared.code.Code.TheVariants.{PortUnknown, PortSide, PassThrough}}
use Rattle.fb_iface.specs.declared.fault.Fault.{Fault}
use Rattle.fb_netcheck.specs.{declared.ends.Holder.{Holder}, declared.ends.Holder.TheVariants.{Own, OfInstance, OfPlug, OfSocket}}
use Rattle.fb_netcheck.specs.{declared.ends.Position.{Position}, declared.ends.Position.TheVariants.{Source, Destination}, declared.ends.Target.{Target}}
use Rattle.fb_netcheck.specs.{declared.ends.Target.TheVariants.{Unknown, NotChecked, Found}, Ends.{end_span, right_side}}

-- a fault at an end
abbrev pub fault_of : Code → End → Fault
fault_of code end = record { code = code; span = end_span end }

-- an end names a port, and one of the right side
abbrev pub end_faults : Position → End → Target → List Fault
end_faults position end Unknown = fault_of PortUnknown end ∷ []
end_faults position end NotChecked = []
end_faults position end (Found holder port) = if same_side port.side (right_side position holder) then [] else fault_of PortSide end ∷ []

-- from the start of the source through the destination
abbrev pub connection_span : Connection → Span
connection_span c = record { start = (end_span c.source).start; end = (end_span c.destination).end }

abbrev pub is_own : Holder → Bool
is_own Own = true
is_own OfInstance = false
is_own OfPlug = false
is_own OfSocket = false

-- whether an end names an own port of the right side
abbrev pub is_own_port : Position → Target → Bool
is_own_port position Unknown = false
is_own_port position NotChecked = false
is_own_port position (Found holder port) = is_own holder && same_side port.side (right_side position holder)

-- a connection of a subapplication does not join two of its own ports
abbrev pub pass_through_faults : UnitKind → Connection → Target → Target → List Fault
pass_through_faults kinds.Subapplication c source destination =
    if is_own_port Source source && is_own_port Destination destination then record { code = PassThrough; span = connection_span c } ∷ [] else []
pass_through_faults kind c source destination = []
