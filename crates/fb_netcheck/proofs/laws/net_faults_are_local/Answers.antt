use Rattle.fb_netcheck.proofs.Locality.{net_faults_local}
use Rattle.fb_netcheck.proofs.laws.net_faults_are_local.Goals as goal

pub returns : goal.returns
returns c = net_faults_local
