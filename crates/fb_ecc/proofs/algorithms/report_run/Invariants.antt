use Rattle.std.proofs.Common.{◌≡◌, ◌++◌, take, nat_eq}
use Rattle.std.specs.{HashSet.{contains}, List.{flat_map}, Cmp.Lexicographic.{pointwise}}
use Rattle.fb_tree.specs.Tree.{state_tree}
use Rattle.fb_ecc.specs.Algorithms.{run_faults}
use Rattle.fb_ecc.proofs.algorithms.report_run.Given as goal

abbrev pub invariant-loop-state : goal.invariant-loop-state
invariant-loop-state l =
    l.found.items ≡ l.initial.found.items ++ flat_map (λ s. flat_map (run_faults (contains (pointwise nat_eq) l.declared)) (state_tree s).actions) (take l.state-index l.states)
