use Rattle.fb_types.proofs.Locality.{networks_local}
use Rattle.fb_types.proofs.laws.networks_are_local.Goals as goal

pub returns : goal.returns
returns c = networks_local
