use Rattle.fb_jobs.proofs.Alike.{one_name}
use Rattle.fb_jobs.proofs.values.same.is_one_name.Goals as goal

pub returns : goal.returns
returns c = rw c.same_name.ensures (one_name c.args.a.now c.args.b.now)
