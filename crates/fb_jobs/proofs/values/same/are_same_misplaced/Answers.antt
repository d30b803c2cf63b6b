use Rattle.std.proofs.Common.{refl}
use Rattle.fb_jobs.proofs.Alike.{same_whole}
use Rattle.fb_jobs.proofs.values.same.are_same_misplaced.Goals as goal

pub returns : goal.returns
returns c = ((λ _. same_whole _ _ c.loop-place.place c.if-a-b.false c.loop-place-test.false c.loop-place.invariant), (λ _. refl))
