-- A unit that is put stands under its source's unit, and is put in the texts too.
use Rattle.std.proofs.{Common.{arith}, lemmas.Grind.{common_steps}}
use Rattle.fb_library.proofs.Units.{own_put, texts_put}
use Rattle.fb_library.proofs.library.Library.put.Goals as goal

pub invariant_of-self : goal.invariant_of-self
invariant_of-self c = grind (arith, common_steps, own_put c.self.inside.units c.unit-unit.result c.in_ok-filed.filed.value)

pub returns : goal.returns
returns c = grind (arith, common_steps, texts_put c.self.inside.units c.unit-unit.result c.in_ok-filed.filed.value)
