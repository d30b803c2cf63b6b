use Rattle.fb_deploy.proofs.ComputedPlans.{plan_at_local}
use Rattle.fb_deploy.proofs.laws.plan_at_is_local.Goals as goal

pub returns : goal.returns
returns c = plan_at_local
