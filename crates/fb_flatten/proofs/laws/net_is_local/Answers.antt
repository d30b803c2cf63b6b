-- The law is the lemma on nets of texts that agree.
use Rattle.fb_flatten.proofs.NetLocality.{net_local}
use Rattle.fb_flatten.proofs.laws.net_is_local.Goals as goal

pub returns : goal.returns
returns c = net_local
