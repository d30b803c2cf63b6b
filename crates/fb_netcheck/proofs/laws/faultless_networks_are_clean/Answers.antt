use Rattle.fb_netcheck.proofs.CleanLemmas.{networks_clean}
use Rattle.fb_netcheck.proofs.laws.faultless_networks_are_clean.Goals as goal

pub returns : goal.returns
returns c = networks_clean
