use Rattle.fb_jobs.proofs.Currents.{least_from_sorted, reads_rise}
use Rattle.fb_jobs.proofs.laws.least_stale.Goals as goal

pub returns : goal.returns
returns c texts it name right first = least_from_sorted texts it.reads name (reads_rise it right) first
