use Rattle.std.proofs.Common.{refl}
use Rattle.fb_jobs.specs.Texts.{text_of}
use Rattle.fb_jobs.proofs.Alike.{same_to_end}
use Rattle.fb_jobs.proofs.values.same.are_same_texts.Goals as goal

pub returns : goal.returns
returns c = ((λ _. same_to_end text_of _ _ c.loop-place.place c.if-a-b.false c.loop-place-test.false c.loop-place.invariant), (λ _. refl))
