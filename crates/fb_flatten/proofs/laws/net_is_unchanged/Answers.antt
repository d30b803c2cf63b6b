-- The law is the lemma on texts that say the same.
use Rattle.fb_flatten.proofs.NetUnchanged.{net_left}
use Rattle.fb_flatten.proofs.laws.net_is_unchanged.Goals as goal

pub returns : goal.returns
returns c = net_left
