use Rattle.fb_library.proofs.CarriedLemmas as known
use Rattle.fb_library.proofs.laws.carried_is_all.Goals as goal

pub returns : goal.returns
returns c = known.carried_is_all
