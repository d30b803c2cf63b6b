use Rattle.fb_serve.proofs.AddedReceipts.{adds_on}
use Rattle.fb_serve.proofs.caller_state.give_back_held.Goals as goal

pub loop-preserved : goal.loop-preserved
loop-preserved g c = adds_on _ _ _ _ _ _ c.loop.invariant c.give_back_last.ensures

pub returns-then-not-give_back_last : goal.returns-then-not-give_back_last
returns-then-not-give_back_last g c = adds_on _ _ _ _ _ _ c.loop.invariant c.give_back_last.ensures
