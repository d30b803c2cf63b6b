use Rattle.std.proofs.Common.{◌≡◌}
use Rattle.std.specs.{declared.cmp.Ordering.TheVariants.{Less}, List.{AllAdjacentBelow}}
use Rattle.fb_network.specs.{Laid.{link_at}, LinkOrder.{link_cmp}}
use Rattle.fb_network.proofs.flat.order.joins_rise.Given as goal

abbrev pub invariant-loop-i : goal.invariant-loop-i
invariant-loop-i l = AllAdjacentBelow (λ x y. link_cmp (link_at l.prefixes x) (link_at l.prefixes y) ≡ Less) l.joins l.i
