use Rattle.fb_expr.proofs.DemandLemmas.{faults_unmet}
use Rattle.fb_expr.proofs.laws.expr_faults_are_unmet.Goals as goal

pub returns : goal.returns
returns c = faults_unmet
