-- The law is the lemma on flat networks.
use Rattle.fb_network.proofs.OneFlat.{same_flat}
use Rattle.fb_network.proofs.laws.flat_is_one.Goals as goal

pub returns : goal.returns
returns c = λ view network a b p q. same_flat a b p q
