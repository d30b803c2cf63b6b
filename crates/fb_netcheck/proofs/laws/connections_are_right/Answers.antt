use Rattle.fb_netcheck.proofs.RightLemmas.{connections_right}
use Rattle.fb_netcheck.proofs.laws.connections_are_right.Goals as goal

pub returns : goal.returns
returns c = connections_right
