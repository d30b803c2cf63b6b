use Rattle.fb_host.proofs.SessionLemmas.{leads_adds}
use Rattle.fb_host.proofs.session.give_back_all.Goals as goal

pub returns : goal.returns
returns g c = leads_adds _ _ _ _ c.give_back_held.ensures
