use Rattle.std.proofs.Common.{◌≡◌, ◌++◌, take}
use Rattle.std.specs.List.{flat_map}
use Rattle.fb_tree.specs.Tree.{algorithm_tree}
use Rattle.fb_expr.specs.{Names.{names_in}, Charts.{algorithm_faults}}
use Rattle.fb_expr.proofs.check.report_algorithms.Given as goal

abbrev pub invariant-loop-algorithm : goal.invariant-loop-algorithm
invariant-loop-algorithm l =
    l.found.items ≡ l.initial.found.items ++ flat_map (λ a. algorithm_faults (names_in l.names) (algorithm_tree a)) (take l.algorithm-index l.algorithms)
