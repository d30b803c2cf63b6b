-- The paths tell first, and then the names of the types.
use Rattle.std.proofs.Common.{sym, ◌∙◌}
use Rattle.fb_network.proofs.Alike.{one_block, other_block}
use Rattle.fb_network.proofs.flat.same.is_same_leaf.Goals as goal

pub returns-then-is_same_place : goal.returns-then-is_same_place
returns-then-is_same_place c = rw (c.is.ensures, c.name.ensures) (one_block _ _ (sym c.is_same_place.ensures ∙ c.if-is_same_place.true))

pub returns-else-is_same_place : goal.returns-else-is_same_place
returns-else-is_same_place c = rw c.if-is_same_place.false (other_block _ _ (sym c.is_same_place.ensures ∙ c.if-is_same_place.false))
