use Rattle.fb_jobs.specs.Texts.{text_of}
use Rattle.fb_jobs.proofs.Alike.{SameLeft}
use Rattle.fb_jobs.proofs.values.same.are_same_texts.Given as goal

abbrev pub invariant-loop-place : goal.invariant-loop-place
invariant-loop-place l = SameLeft text_of l.a l.b l.place
