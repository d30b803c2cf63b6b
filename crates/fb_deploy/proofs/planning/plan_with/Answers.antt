-- The plan that is computed is the plan of the system.
use Rattle.std.proofs.lemmas.Result.{IfOk-weaker}
use Rattle.fb_deploy.specs.Deploy.{plain_deploy}
use Rattle.fb_deploy.proofs.ComputedPlans.{plan_at_is}
use Rattle.fb_deploy.proofs.planning.plan_with.Goals as goal

pub returns-clause-is : goal.returns-clause-is
returns-clause-is g c =
    IfOk-weaker c.plan_by_net.result _ _ (λ deploy at. ((plan_at_is (g.V.View.sources c.args.view.now) c.args.system (plain_deploy deploy)).0 at).1) c.plan_by_net.ensures
