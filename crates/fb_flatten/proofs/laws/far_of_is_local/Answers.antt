use Rattle.fb_flatten.proofs.FarNames.{far_of_local}
use Rattle.fb_flatten.proofs.laws.far_of_is_local.Goals as goal

pub returns : goal.returns
returns c = far_of_local
