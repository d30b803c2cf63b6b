use Rattle.fb_expr.proofs.Locality.{expr_faults_local}
use Rattle.fb_expr.proofs.laws.expr_faults_are_local.Goals as goal

pub returns : goal.returns
returns c = expr_faults_local
