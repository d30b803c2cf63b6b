-- The law is the lemma on nets.
use Rattle.fb_flatten.proofs.OneNet.{one_net_only}
use Rattle.fb_flatten.proofs.laws.one_net.Goals as goal

pub returns : goal.returns
returns c = one_net_only
