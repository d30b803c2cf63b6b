use Rattle.fb_jobs.proofs.{Currents.{reads_rise}, SameNeeds.{needs_rise}}
use Rattle.fb_jobs.proofs.laws.needs_in_order.Goals as goal

pub returns : goal.returns
returns c = record { needs = needs_rise; reads = reads_rise }
