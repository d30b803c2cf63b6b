use Rattle.fb_library.proofs.Locality.{near_local}
use Rattle.fb_library.proofs.laws.near_is_local.Goals as goal

pub returns : goal.returns
returns c = near_local
