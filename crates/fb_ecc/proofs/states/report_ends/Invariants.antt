use Rattle.std.proofs.Common.{◌≡◌, ◌++◌, take, nat_eq}
use Rattle.std.specs.{HashSet.{contains}, List.{flat_map}, Cmp.Lexicographic.{pointwise}}
use Rattle.fb_tree.specs.Tree.{transition_tree}
use Rattle.fb_ecc.specs.States.{transition_faults}
use Rattle.fb_ecc.proofs.states.report_ends.Given as goal

abbrev pub invariant-loop-transition : goal.invariant-loop-transition
invariant-loop-transition l =
    l.found.items ≡ l.initial.found.items ++ flat_map (λ t. transition_faults (contains (pointwise nat_eq) l.listed) (transition_tree t)) (take l.transition-index l.transitions)
