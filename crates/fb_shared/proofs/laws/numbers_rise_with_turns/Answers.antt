use Rattle.fb_shared.proofs.Histories.{numbers_rise}
use Rattle.fb_shared.proofs.laws.numbers_rise_with_turns.Goals as goal

pub returns : goal.returns
returns c = λ bench turns m n earlier later. numbers_rise bench m n earlier later turns
