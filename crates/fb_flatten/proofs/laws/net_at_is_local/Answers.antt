use Rattle.fb_flatten.proofs.ComputedNets.{net_at_local}
use Rattle.fb_flatten.proofs.laws.net_at_is_local.Goals as goal

pub returns : goal.returns
returns c = net_at_local
