use Rattle.std.proofs.Common.{ℕ, List, All}
use Rattle.fb_deploy.specs.{Flatten.Inner.{IsInnerNet}, Library.View.{Sources}}
use Rattle.fb_jobs.specs.Work.{IsFoundIn}
use Rattle.fb_jobs.proofs.jobs.computed.found_nets.Given as goal

abbrev pub invariant-loop-it : goal.invariant-loop-it
invariant-loop-it l = (sources : Sources) (unit : List ℕ) → All (IsInnerNet sources unit) l.fn.inner.items → All (IsFoundIn sources unit) l.found.items
