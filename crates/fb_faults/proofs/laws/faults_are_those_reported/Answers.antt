use Rattle.fb_faults.proofs.OrderLemmas.{those_reported}
use Rattle.fb_faults.proofs.laws.faults_are_those_reported.Goals as goal

pub returns : goal.returns
returns c = those_reported
