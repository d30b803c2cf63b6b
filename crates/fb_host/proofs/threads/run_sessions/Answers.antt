use Rattle.fb_host.proofs.SessionLemmas.{leads_on}
use Rattle.fb_host.proofs.threads.run_sessions.Goals as goal

pub loop-preserved : goal.loop-preserved
loop-preserved g c = leads_on _ _ _ c.loop.invariant (leads_on _ _ _ c.serve_connection-left.ensures c.give_back_all.ensures)
