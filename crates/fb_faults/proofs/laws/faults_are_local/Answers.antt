use Rattle.fb_faults.proofs.Locality.{faults_local}
use Rattle.fb_faults.proofs.laws.faults_are_local.Goals as goal

pub returns : goal.returns
returns c = faults_local
