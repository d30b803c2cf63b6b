use Rattle.fb_history.specs.Records.{text_edit}
use Rattle.fb_jobs.proofs.Alike.{SameLeft}
use Rattle.fb_history.proofs.same.are_same_changes.Given as goal

abbrev pub invariant-loop-place : goal.invariant-loop-place
invariant-loop-place l = SameLeft text_edit l.a l.b l.place
