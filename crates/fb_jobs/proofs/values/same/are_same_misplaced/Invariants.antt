use Rattle.fb_deploy.specs.Placing.declared.homes.Misplaced.{Misplaced}
use Rattle.fb_jobs.proofs.Alike.{SameLeft}
use Rattle.fb_jobs.proofs.values.same.are_same_misplaced.Given as goal

abbrev pub invariant-loop-place : goal.invariant-loop-place
invariant-loop-place l = SameLeft (λ (it : Misplaced). it) l.a l.b l.place
