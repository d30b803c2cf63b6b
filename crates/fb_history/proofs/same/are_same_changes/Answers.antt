use Rattle.std.proofs.Common.{refl}
use Rattle.fb_history.specs.Records.{text_edit}
use Rattle.fb_jobs.proofs.Alike.{same_to_end}
use Rattle.fb_history.proofs.same.are_same_changes.Goals as goal

pub returns : goal.returns
returns c = ((λ _. same_to_end text_edit _ _ c.loop-place.place c.if-a-b.false c.loop-place-test.false c.loop-place.invariant), (λ _. refl))
