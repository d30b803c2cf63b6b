-- The law is the lemma on systems.
use Rattle.fb_network.proofs.SystemLemmas.{same_system}
use Rattle.fb_network.proofs.laws.system_is_one.Goals as goal

pub returns : goal.returns
returns c = λ applications a b p q. same_system applications a b p q
