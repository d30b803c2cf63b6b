use Rattle.fb_jobs.proofs.WorkLemmas.{nets_current}
use Rattle.fb_jobs.proofs.laws.current_nets.Goals as goal

pub returns : goal.returns
returns c = nets_current
