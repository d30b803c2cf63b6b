-- The types of what connections join.
use Rattle.std.specs.{Prelude.{ℕ, Bool, true, ◌&&◌, ◌||◌, not, List, [], ◌∷◌, Option, Some, None, if◌then◌else◌}, Option.{option_map_or}}
use Rattle.fb_tree.specs.{Text.declared.name.NameUse.{NameUse}, declared.interface.TypeUse.{TypeUse}, declared.network.Connection.{Connection}}
use Rattle.fb_tree.specs.declared.network.End.{End}
use Rattle.fb_iface.specs.{Library.View.{Sources}, Class.{class_of_type, is_free}, Names.{is_same, stands_for}, declared.code.Code.TheVariants.{DataType}}
use Rattle.fb_iface.specs.declared.fault.Fault.{Fault}
use Rattle.fb_netcheck.specs.{declared.ends.Flow.{Flow}, declared.ends.Flow.TheVariants.{Data, Adapter}}
use Rattle.fb_netcheck.specs.{declared.ends.Position.TheVariants.{Source, Destination}, declared.ends.Target.{Target}, declared.ends.Target.TheVariants.{Found}}
use Rattle.fb_netcheck.specs.{Settings.{NetworkPlace}, Sides.{fault_of}, Ends.{is_right, target}, Spellings.{same_type}}

-- the unit in whose text the port `name` or `name.port` is declared: the own unit, or the type of the instance
abbrev pub home_of : NetworkPlace → NameUse → Option NameUse → List ℕ
home_of here name None = here.unit
home_of here name (Some port) = option_map_or (λ i. i.type_name.name) (stands_for here.scope.own.instances name.name) here.unit

abbrev pub home : NetworkPlace → End → List ℕ
home here end = home_of here end.name end.port

-- whether what flows is of one type, if the test compares two types; a type that is not checked agrees with each
abbrev pub flows_agree : (TypeUse → TypeUse → Bool) → Flow → Flow → Bool
flows_agree same (Data a) (Data b) = is_free (class_of_type a) || is_free (class_of_type b) || same a b
flows_agree same (Adapter a) (Adapter b) = is_same a.name b.name
flows_agree same a b = true

abbrev pub targets_agree : (TypeUse → TypeUse → Bool) → Target → Target → Bool
targets_agree same (Found holder port) (Found other_holder other) = flows_agree same port.flow other.flow
targets_agree same a b = true

-- the ports at both ends are of one type, if they are of the right sides
abbrev pub flow_faults : (TypeUse → TypeUse → Bool) → Connection → Target → Target → List Fault
flow_faults same c source destination =
    if is_right Source source && is_right Destination destination && not (targets_agree same source destination) then fault_of DataType c.destination ∷ [] else []

-- whether two types are spelled alike, one at the source of a connection and the other at its destination
abbrev pub same_at_ends : Sources → NetworkPlace → Connection → TypeUse → TypeUse → Bool
same_at_ends sources here c a b = same_type sources (home here c.source) a (home here c.destination) b

-- the ports that a connection joins are of one type
abbrev pub joined_types : Sources → NetworkPlace → Connection → List Fault
joined_types sources here c = flow_faults (same_at_ends sources here c) c (target here c.sort c.source) (target here c.sort c.destination)
