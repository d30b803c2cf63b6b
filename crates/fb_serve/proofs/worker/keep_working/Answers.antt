use Rattle.fb_serve.proofs.AddedReceipts.{adds_on}
use Rattle.fb_serve.proofs.worker.keep_working.Goals as goal

pub loop-preserved : goal.loop-preserved
loop-preserved g c = adds_on _ _ _ _ _ _ c.loop.invariant c.look_once.ensures

pub returns-in_default : goal.returns-in_default
returns-in_default g c = adds_on _ _ _ _ _ _ c.loop.invariant c.look_once.ensures
