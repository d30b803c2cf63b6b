use Rattle.fb_jobs.proofs.KindLemmas.{kind_there, kinds_rise}
use Rattle.fb_jobs.proofs.laws.kinds_in_order.Goals as goal

pub returns : goal.returns
returns c = record { all = kind_there; order = kinds_rise }
