use Rattle.fb_host.proofs.SessionLemmas.{leads_on, leads_adds}
use Rattle.fb_host.proofs.threads.run_worker.Goals as goal

pub loop-preserved : goal.loop-preserved
loop-preserved g c = leads_on _ _ _ c.loop.invariant (leads_adds _ _ _ _ c.keep_working-end.ensures)

pub loop-preserved-in-TurnsOver : goal.loop-preserved-in-TurnsOver
loop-preserved-in-TurnsOver g c = leads_on _ _ _ c.loop.invariant (leads_adds _ _ _ _ c.keep_working-end.ensures)

pub returns-in-Stopped-clause-calls : goal.returns-in-Stopped-clause-calls
returns-in-Stopped-clause-calls g c = leads_on _ _ _ c.loop.invariant (leads_adds _ _ _ _ c.keep_working-end.ensures)
