use Rattle.fb_deploy.proofs.ComputedPlans.{plan_at_is}
use Rattle.fb_deploy.proofs.laws.plan_at_is_plan.Goals as goal

pub returns : goal.returns
returns c = plan_at_is
