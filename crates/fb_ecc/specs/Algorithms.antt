-- Algorithms of actions (IEC 61499-1, 5.2.1: execution control charts).
use Rattle.std.specs.{Prelude.{ℕ, Bool, List, [], ◌∷◌, map, if◌then◌else◌}, List.{flat_map}, Option.{option_map_or}}
use Rattle.fb_tree.specs.{Text.declared.name.NameUse.{NameUse}, Tree.{ChartTree}, declared.chart.Action.{Action}}
use Rattle.fb_iface.specs.{declared.code.Code.TheVariants.{AlgorithmUnknown}, declared.fault.Fault.{Fault}, Fault.{fault_at}, Names.{has_name}}

-- the names of the algorithms
abbrev pub algorithm_names : ChartTree → List NameUse
algorithm_names chart = map (λ a. a.name) chart.algorithms

-- the fault of an algorithm whose name is not declared
abbrev pub algorithm_fault : (List ℕ → Bool) → NameUse → List Fault
algorithm_fault declared name = if declared name.name then [] else fault_at AlgorithmUnknown name ∷ []

-- an action runs a declared algorithm, or none
abbrev pub run_faults : (List ℕ → Bool) → Action → List Fault
run_faults declared a = option_map_or (algorithm_fault declared) a.algorithm []

abbrev pub algorithm_faults : ChartTree → List Fault
algorithm_faults chart = flat_map (λ s. flat_map (run_faults (has_name (algorithm_names chart))) s.actions) chart.states
