use Rattle.std.proofs.Common.{◌≡◌}
use Rattle.std.specs.{declared.cmp.Ordering.TheVariants.{Less}, List.{AllAdjacentBelow}}
use Rattle.fb_text.proofs.order.rises.Given as goal

abbrev pub invariant-loop-i : goal.invariant-loop-i
invariant-loop-i g l = AllAdjacentBelow (λ x y. g.T.Ord.cmp x y ≡ Less) l.items l.i
