-- Events of transitions and of actions (IEC 61499-1, 5.2.1: execution control charts; 5.5: adapters).
use Rattle.std.specs.{Prelude.{ℕ, List, [], ◌∷◌, ◌++◌, Option, Some, None, if◌then◌else◌}, List.{flat_map}, Option.{option_map_or}}
use Rattle.fb_tree.specs.{Text.declared.token.Span.{Span}, Text.declared.name.NameUse.{NameUse}}
use Rattle.fb_tree.specs.{Tree.{ChartTree, ConditionTree, TransitionTree, always, on_event, guarded, guard}, declared.chart.Action.{Action}}
use Rattle.fb_tree.specs.{declared.interface.Side.{Side}, declared.network.End.{End}, declared.network.Role.{Role}}
use Rattle.fb_tree.specs.declared.interface.Side.TheVariants as sides
use Rattle.fb_tree.specs.declared.network.Role.TheVariants as roles
use Rattle.fb_iface.specs.{declared.code.Code.TheVariants.{EventUnknown}, declared.fault.Fault.{Fault}, Ports.{DeclaredEvent}}
use Rattle.fb_iface.specs.{Ports.{DeclaredInstance, Meanings, same_side}, Names.{stands_for}, Scope.{Scope, instance_ports}}
use Rattle.fb_ecc.specs.{declared.events.EventTarget.{EventTarget}, declared.events.EventTarget.TheVariants.{Found, Unknown, NotChecked}}

abbrev pub opposite : Side → Side
opposite sides.Input = sides.Output
opposite sides.Output = sides.Input

-- the side that events of this side have in an adapter type: the same for a plug, the opposite for a socket
abbrev pub side_through : Role → Side → Option Side
side_through roles.Plug side = Some side
side_through roles.Socket side = Some (opposite side)
side_through roles.Block side = None
side_through roles.Subapplication side = None

abbrev pub event_on : Side → Option DeclaredEvent → EventTarget
event_on side None = Unknown
event_on side (Some event) = if same_side event.side side then Found else Unknown

-- what a name means among ports, if it must be an event of this side
abbrev pub event_among : Side → Meanings → List ℕ → EventTarget
event_among side ports name = event_on side (stands_for ports.events name)

-- what a name means among the ports of an adapter; an adapter whose type is not usable is not checked
abbrev pub event_of_adapter : Option Meanings → List ℕ → Side → EventTarget
event_of_adapter None name side = NotChecked
event_of_adapter (Some ports) name side = event_among side ports name

-- what a name means at a plug or socket, if it must be an event of this side
abbrev pub event_behind : Scope → Side → Option DeclaredInstance → List ℕ → EventTarget
event_behind scope side None name = Unknown
event_behind scope side (Some p) name = option_map_or (event_of_adapter (instance_ports scope p) name) (side_through p.role side) Unknown

-- what a reference `X` or `p.X` names, if it must be an event of this side
abbrev pub event_named : Scope → Side → NameUse → Option NameUse → EventTarget
event_named scope side name None = event_among side scope.own name.name
event_named scope side name (Some port) = event_behind scope side (stands_for scope.own.instances name.name) port.name

-- the span from the first name to the end of the last
abbrev pub span_from : Span → Option NameUse → Span
span_from first None = first
span_from first (Some port) = record { start = first.start; end = port.span.end }

abbrev pub target_faults : EventTarget → Span → List Fault
target_faults Found span = []
target_faults NotChecked span = []
target_faults Unknown span = record { code = EventUnknown; span = span } ∷ []

abbrev pub end_event_faults : Scope → Side → End → List Fault
end_event_faults scope side e = target_faults (event_named scope side e.name e.port) (span_from e.name.span e.port)

-- the fault of an event that is written and is not of this side
abbrev pub written_fault : Scope → Side → Option End → List Fault
written_fault scope side event = option_map_or (end_event_faults scope side) event []

abbrev pub event_in : ConditionTree → Option End
event_in (always span) = None
event_in (on_event event) = Some event
event_in (guarded event test) = Some event
event_in (guard test) = None

-- the events of transitions are event inputs
abbrev pub trigger_faults : Scope → TransitionTree → List Fault
trigger_faults scope t = written_fault scope sides.Input (event_in t.condition)

-- the events of actions are event outputs
abbrev pub sent_faults : Scope → Action → List Fault
sent_faults scope a = written_fault scope sides.Output a.event

abbrev pub event_faults : Scope → ChartTree → List Fault
event_faults scope chart =
    flat_map (trigger_faults scope) chart.transitions ++ flat_map (λ s. flat_map (sent_faults scope) s.actions) chart.states
