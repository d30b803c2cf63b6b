-- Names after WITH.
use Rattle.std.specs.{Prelude.{ℕ, Bool, false, not, List, filter, Option, Some, None}, List.{flat_map}}
use Rattle.fb_tree.specs.{Tree.{EventTree, InterfaceTree}, declared.interface.Side.{Side}}
use Rattle.fb_iface.specs.{declared.code.Code.TheVariants.{WithUnknown}, Ports.{DeclaredVariable}, declared.fault.Fault.{Fault}}
use Rattle.fb_iface.specs.{Ports.{variables_in}, Fault.{faults_at}, Names.{stands_for}, Sides.{goes_with}}

-- whether what a name means can go with an event of this side
abbrev pub goes_along : Side → Option DeclaredVariable → Bool
goes_along side None = false
goes_along side (Some variable) = goes_with side variable.section

-- the names after WITH that can't go with the event, by the variables that names mean
abbrev pub event_withs : (List ℕ → Option DeclaredVariable) → EventTree → List Fault
event_withs variable event =
    faults_at WithUnknown (filter (λ w. not (goes_along event.side (variable w.name))) event.with)

abbrev pub with_faults : InterfaceTree → List Fault
with_faults i = flat_map (event_withs (stands_for (variables_in i))) i.events
