use Rattle.fb_jobs.proofs.Alike.{one_key}
use Rattle.fb_history.proofs.same.is_one_key.Goals as goal

pub returns : goal.returns
returns c = rw c.eq.ensures (one_key c.args.a.now c.args.b.now)
