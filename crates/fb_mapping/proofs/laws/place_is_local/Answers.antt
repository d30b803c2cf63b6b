-- The law is the lemma on placements of texts that agree.
use Rattle.fb_mapping.proofs.PlaceLocal.{place_local}
use Rattle.fb_mapping.proofs.laws.place_is_local.Goals as goal

pub returns : goal.returns
returns c = place_local
