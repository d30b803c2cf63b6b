-- The law is the lemma on chains.
use Rattle.fb_network.proofs.Chains.{composed}
use Rattle.fb_network.proofs.laws.chains_are_composed.Goals as goal

pub returns : goal.returns
returns c = λ view network clean sort a b chain. composed clean chain
