use Rattle.fb_ecc.proofs.Locality.{ecc_local}
use Rattle.fb_ecc.proofs.laws.ecc_is_local.Goals as goal

pub returns : goal.returns
returns c = ecc_local
