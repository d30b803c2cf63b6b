-- States of transitions (IEC 61499-1, 5.2.1: execution control charts).
use Rattle.std.specs.{Prelude.{ℕ, Bool, List, [], ◌∷◌, ◌++◌, map, if◌then◌else◌}, List.{flat_map}}
use Rattle.fb_tree.specs.{Text.declared.name.NameUse.{NameUse}, Tree.{ChartTree, TransitionTree}}
use Rattle.fb_iface.specs.{declared.code.Code.TheVariants.{StateUnknown}, declared.fault.Fault.{Fault}, Fault.{fault_at}, Names.{has_name}}

-- the names of the states
abbrev pub state_names : ChartTree → List NameUse
state_names chart = map (λ s. s.name) chart.states

-- the fault of a state that is not listed
abbrev pub state_fault : (List ℕ → Bool) → NameUse → List Fault
state_fault listed name = if listed name.name then [] else fault_at StateUnknown name ∷ []

-- a transition goes from a listed state to a listed state
abbrev pub transition_faults : (List ℕ → Bool) → TransitionTree → List Fault
transition_faults listed t = state_fault listed t.source ++ state_fault listed t.destination

abbrev pub state_faults : ChartTree → List Fault
state_faults chart = flat_map (transition_faults (has_name (state_names chart))) chart.transitions
