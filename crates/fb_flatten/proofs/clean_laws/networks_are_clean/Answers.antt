use Rattle.fb_flatten.proofs.CleanUnits.{networks_clean}
use Rattle.fb_flatten.proofs.clean_laws.networks_are_clean.Goals as goal

pub returns : goal.returns
returns c = networks_clean
