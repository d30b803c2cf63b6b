use Rattle.fb_deploy.proofs.ComputedPlans.{plan_at_of}
use Rattle.fb_deploy.proofs.laws.plan_at_of_systems.Goals as goal

pub returns : goal.returns
returns c = plan_at_of
