-- The faults of execution control charts.
use Rattle.std.specs.Prelude.{ℕ, List, [], ◌++◌, Option, Some, None}
use Rattle.fb_tree.specs.Tree.{ChartTree, DeclTree, block_type, adapter_type, subapplication_type, system_configuration, structure_type}
use Rattle.fb_iface.specs.{Library.View.{Sources, tree_at}, declared.fault.Fault.{Fault}, Scope.{Scope, scope_of_type}}
use Rattle.fb_ecc.specs.{Algorithms.{algorithm_faults}, Events.{event_faults}, States.{state_faults}}

abbrev pub chart_faults : Scope → ChartTree → List Fault
chart_faults scope chart = state_faults chart ++ event_faults scope chart ++ algorithm_faults chart

-- only block types have a chart
abbrev pub chart_faults_in : Sources → Option DeclTree → List Fault
chart_faults_in sources None = []
chart_faults_in sources (Some (block_type d)) = chart_faults (scope_of_type sources d) d.chart
chart_faults_in sources (Some (adapter_type d)) = []
chart_faults_in sources (Some (subapplication_type d)) = []
chart_faults_in sources (Some (system_configuration s)) = []
chart_faults_in sources (Some (structure_type s)) = []

-- the faults of a unit's chart; a unit that is absent or broken has none
abbrev pub ecc_faults_of : Sources → List ℕ → List Fault
ecc_faults_of sources unit = chart_faults_in sources (tree_at sources unit)
