use Rattle.fb_flatten.proofs.FarNames.{far_is_all}
use Rattle.fb_flatten.proofs.laws.far_is_all.Goals as goal

pub returns : goal.returns
returns c = far_is_all
