-- The law is the lemma on placements.
use Rattle.fb_mapping.proofs.OnePlacement.{one_placement}
use Rattle.fb_mapping.proofs.laws.one_place.Goals as goal

pub returns : goal.returns
returns c = one_placement
