-- The names stay in order.
use Rattle.std.proofs.{Common.{arith}, lemmas.Grind.{common_steps}}
use Rattle.std.specs.BTreeMap.{is_at}
use Rattle.fb_parse.specs.Text.Order.{name_cmp}
use Rattle.fb_library.proofs.Places.{sorted_removed}
use Rattle.fb_library.proofs.table.Table.remove.Goals as goal

pub invariant_of-self : goal.invariant_of-self
invariant_of-self g c = grind (arith, common_steps, sorted_removed (is_at (name_cmp c.args.name.now)) c.self.inside.rooms)
