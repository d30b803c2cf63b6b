-- The law is the lemma on plans of texts that agree.
use Rattle.fb_deploy.proofs.PlanLocal.{plan_local}
use Rattle.fb_deploy.proofs.laws.plan_is_local.Goals as goal

pub returns : goal.returns
returns c = plan_local
