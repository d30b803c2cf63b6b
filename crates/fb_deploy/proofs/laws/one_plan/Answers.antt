-- The law is the lemma on plans.
use Rattle.fb_deploy.proofs.PlanLocal.{one_plan_only}
use Rattle.fb_deploy.proofs.laws.one_plan.Goals as goal

pub returns : goal.returns
returns c = one_plan_only
