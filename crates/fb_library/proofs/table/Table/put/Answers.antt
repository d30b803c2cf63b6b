-- The names stay in order.
use Rattle.std.proofs.{Common.{arith}, lemmas.Grind.{common_steps}}
use Rattle.fb_library.proofs.Places.{sorted_put}
use Rattle.fb_library.proofs.table.Table.put.Goals as goal

pub invariant_of-self : goal.invariant_of-self
invariant_of-self g c = grind (arith, common_steps, sorted_put c.self.inside.rooms c.args.name c.args.value.value)
