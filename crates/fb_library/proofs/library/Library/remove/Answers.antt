-- The unit is gone from the table, and from the texts too.
use Rattle.std.proofs.{Common.{arith}, lemmas.Grind.{common_steps}}
use Rattle.std.specs.BTreeMap.{is_at}
use Rattle.fb_parse.specs.Text.Order.{name_cmp}
use Rattle.fb_library.proofs.Units.{own_removed, texts_removed}
use Rattle.fb_library.proofs.library.Library.remove.Goals as goal

pub invariant_of-self : goal.invariant_of-self
invariant_of-self c = grind (arith, common_steps, own_removed (is_at (name_cmp c.args.unit.now)) c.self.inside.units)

pub returns : goal.returns
returns c = grind (arith, common_steps, texts_removed (is_at (name_cmp c.args.unit.now)) c.self.inside.units)
