-- The unit is indexed now, and each other one is as before.
use Rattle.fb_tree.specs.Mentions.{mentioned}
use Rattle.fb_index.proofs.Units.{kept_units}
use Rattle.fb_index.proofs.index.Index.replace.Goals as goal

pub invariant_of-self : goal.invariant_of-self
invariant_of-self c = kept_units c.replace.result _ _ c.args.unit (mentioned c.args.new.now) c.replace.ensures.ok c.replace.ensures.err c.self.invariant
