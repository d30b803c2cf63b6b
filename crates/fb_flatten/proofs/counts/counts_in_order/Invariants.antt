-- The subapplications passed so far are counted, and each count is right.
use Rattle.std.proofs.Common.{take}
use Rattle.std.specs.BTreeMap.{get}
use Rattle.fb_types.specs.Text.Order.{name_cmp}
use Rattle.fb_flatten.proofs.CountLemmas.{AreSoFar}
use Rattle.fb_flatten.proofs.counts.counts_in_order.Given as goal

abbrev pub invariant-loop-name : goal.invariant-loop-name
invariant-loop-name g l = AreSoFar (g.V.View.sources l.view) (take l.name-index l.order) (get name_cmp l.counts)
