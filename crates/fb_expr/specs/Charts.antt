-- The faults of the expressions and statements of a unit (IEC 61499-1, 5.2.1 and 5.2.2: execution control charts and algorithms).
use Rattle.std.specs.{Prelude.{◌≡◌, ℕ, List, [], ◌++◌, Option, Some, None}, List.{flat_map}}
use Rattle.fb_tree.specs.Statement.{statements_of}
use Rattle.fb_tree.specs.Tree.{AlgorithmTree, ChartTree, ConditionTree, always, on_event, guarded, guard, DeclTree, TransitionTree, block_type, adapter_type, subapplication_type, system_configuration, structure_type}
use Rattle.fb_iface.specs.{Library.Local.{Agree}, Library.Near.{near_of}, Library.View.{Sources, tree_at}, declared.fault.Fault.{Fault}}
use Rattle.fb_expr.specs.{Names.{Names, names_of_type}, declared.rules.ClassPlace.TheVariants.{Condition}, Statements.{faults_at_place, statements_faults}}

-- the guard of a transition, if it has one
abbrev pub guard_faults : Names → ConditionTree → List Fault
guard_faults names (always span) = []
guard_faults names (on_event event) = []
guard_faults names (guarded event test) = faults_at_place Condition names test
guard_faults names (guard test) = faults_at_place Condition names test

abbrev pub transition_faults : Names → TransitionTree → List Fault
transition_faults names t = guard_faults names t.condition

-- the faults of the statements of an algorithm; statements are kept only of one in Structured Text
abbrev pub algorithm_faults : Names → AlgorithmTree → List Fault
algorithm_faults names a = statements_faults names (statements_of a.statements)

-- the faults of all transitions and all algorithms, also of later ones with the same name
abbrev pub expression_faults : Names → ChartTree → List Fault
expression_faults names c = flat_map (transition_faults names) c.transitions ++ flat_map (algorithm_faults names) c.algorithms

-- only a block type has a chart and algorithms
abbrev pub faults_in_unit : Sources → List ℕ → Option DeclTree → List Fault
faults_in_unit sources unit None = []
faults_in_unit sources unit (Some (block_type d)) = expression_faults (names_of_type sources unit d) d.chart
faults_in_unit sources unit (Some (adapter_type d)) = []
faults_in_unit sources unit (Some (subapplication_type d)) = []
faults_in_unit sources unit (Some (system_configuration s)) = []
faults_in_unit sources unit (Some (structure_type s)) = []

-- the faults of the expressions and statements of a unit; one that is absent or broken has none
abbrev pub expr_faults_of : Sources → List ℕ → List Fault
expr_faults_of sources unit = faults_in_unit sources unit (tree_at sources unit)

-- these faults depend only on the texts of what is near the unit
abbrev pub ExprFaultsAreLocal : Type 0
ExprFaultsAreLocal = (a b : Sources) (unit : List ℕ) → Agree (near_of a unit) a b → expr_faults_of a unit ≡ expr_faults_of b unit
