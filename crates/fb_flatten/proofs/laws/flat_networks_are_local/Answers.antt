-- The law is the lemma on places, chains and instances.
use Rattle.fb_flatten.proofs.FlatLocality.{same_flats}
use Rattle.fb_flatten.proofs.laws.flat_networks_are_local.Goals as goal

pub returns : goal.returns
returns c = λ a b names network closed same within. same_flats closed same within
