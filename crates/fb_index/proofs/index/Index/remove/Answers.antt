-- The unit is gone, and each other one is as before.
use Rattle.fb_index.proofs.Units.{left_units}
use Rattle.fb_index.proofs.index.Index.remove.Goals as goal

pub invariant_of-self : goal.invariant_of-self
invariant_of-self c = left_units c.remove.result _ _ c.args.unit.now c.remove.ensures.ok c.remove.ensures.err c.self.invariant
