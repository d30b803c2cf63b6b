use Rattle.fb_library.proofs.Locality as known
use Rattle.fb_library.proofs.laws.carried_is_local.Goals as goal

pub returns : goal.returns
returns c = known.carried_local
