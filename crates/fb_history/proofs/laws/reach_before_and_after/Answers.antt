-- The law of reach.
use Rattle.fb_history.proofs.AfterCalls.{reach_same}
use Rattle.fb_history.proofs.laws.reach_before_and_after.Goals as goal

pub returns : goal.returns
returns c = λ changed texts others apart key. reach_same changed texts others key apart
