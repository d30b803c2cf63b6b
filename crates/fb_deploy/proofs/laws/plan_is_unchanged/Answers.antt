-- The law is the lemma on texts that leave a net as it was.
use Rattle.fb_deploy.proofs.PlanUnchanged.{plan_left}
use Rattle.fb_deploy.proofs.laws.plan_is_unchanged.Goals as goal

pub returns : goal.returns
returns c = plan_left
