use Rattle.std.proofs.Common.{◌≡◌, ◌++◌, take, nat_eq}
use Rattle.std.specs.{HashSet.{contains}, List.{flat_map}, Cmp.Lexicographic.{pointwise}}
use Rattle.fb_ecc.specs.Algorithms.{run_faults}
use Rattle.fb_ecc.proofs.algorithms.report_run_by.Given as goal

abbrev pub invariant-loop-action : goal.invariant-loop-action
invariant-loop-action l =
    l.found.items ≡ l.initial.found.items ++ flat_map (run_faults (contains (pointwise nat_eq) l.declared)) (take l.action-index l.actions)
