use Rattle.std.proofs.Common.{◌≡◌, ◌++◌, take}
use Rattle.std.specs.List.{flat_map}
use Rattle.fb_tree.specs.Tree.{transition_tree}
use Rattle.fb_expr.specs.{Names.{names_in}, Charts.{transition_faults}}
use Rattle.fb_expr.proofs.check.report_transitions.Given as goal

abbrev pub invariant-loop-transition : goal.invariant-loop-transition
invariant-loop-transition l =
    l.found.items ≡ l.initial.found.items ++ flat_map (λ t. transition_faults (names_in l.names) (transition_tree t)) (take l.transition-index l.transitions)
