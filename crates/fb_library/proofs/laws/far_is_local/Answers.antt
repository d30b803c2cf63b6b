use Rattle.fb_library.proofs.Locality.{far_local}
use Rattle.fb_library.proofs.laws.far_is_local.Goals as goal

pub returns : goal.returns
returns c = far_local
