use Rattle.fb_deploy.proofs.ComputedPlans.{has_by_text}
use Rattle.fb_deploy.proofs.laws.has_plan_by_text.Goals as goal

pub returns : goal.returns
returns c = has_by_text
