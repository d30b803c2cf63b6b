use Rattle.fb_locked.proofs.Rolls.{roll_unseen}
use Rattle.fb_locked.proofs.roll.rolls_are_unseen.Goals as goal

pub returns : goal.returns
returns c = λ limits locked begins same some. roll_unseen limits locked begins same some
