use Rattle.fb_flatten.proofs.NothingLemmas.{nothing_reported}
use Rattle.fb_flatten.proofs.clean_laws.without_faults_nothing_is_reported.Goals as goal

pub returns : goal.returns
returns c = nothing_reported
