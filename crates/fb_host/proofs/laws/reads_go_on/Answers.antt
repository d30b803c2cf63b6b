use Rattle.fb_host.proofs.SessionLemmas.{reads_go_on}
use Rattle.fb_host.proofs.laws.reads_go_on.Goals as goal

pub returns : goal.returns
returns c = reads_go_on
