-- Plans are told by what they say.
use Rattle.fb_jobs.proofs.Alike.{told_of_plans}
use Rattle.fb_jobs.proofs.values.same.is_same_plan.Goals as goal

pub returns : goal.returns
returns c = told_of_plans c.is_same.result c.args.a.now c.args.b.now c.is_same.ensures
