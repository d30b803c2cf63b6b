use Rattle.fb_flatten.proofs.ComputedNets.{has_by_text}
use Rattle.fb_flatten.proofs.laws.has_net_by_text.Goals as goal

pub returns : goal.returns
returns c = has_by_text
