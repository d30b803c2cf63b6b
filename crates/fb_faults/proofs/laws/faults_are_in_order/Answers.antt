use Rattle.fb_faults.proofs.OrderLemmas.{in_order}
use Rattle.fb_faults.proofs.laws.faults_are_in_order.Goals as goal

pub returns : goal.returns
returns c = in_order
