use Rattle.fb_host.proofs.SessionLemmas.{leads_on}
use Rattle.fb_host.proofs.keeper.keep_keys.Goals as goal

pub loop-preserved-then-is_empty : goal.loop-preserved-then-is_empty
loop-preserved-then-is_empty g c = leads_on _ _ _ c.loop.invariant c.give_back_all.ensures

pub loop-preserved : goal.loop-preserved
loop-preserved g c = leads_on _ _ _ c.loop.invariant c.give_back_all.ensures
