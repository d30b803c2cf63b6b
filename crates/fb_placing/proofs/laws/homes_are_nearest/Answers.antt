-- The law is the lemma on what stands in front of paths.
use Rattle.fb_placing.specs.Mappings.{resource_at}
use Rattle.fb_network.proofs.NearestLemmas.{is_nearest}
use Rattle.fb_placing.proofs.laws.homes_are_nearest.Goals as goal

pub returns : goal.returns
returns c = λ mappings path. is_nearest (resource_at mappings) path
