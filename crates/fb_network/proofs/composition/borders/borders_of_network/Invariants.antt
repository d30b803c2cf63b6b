-- The borders of the connections passed so far.
use Rattle.std.proofs.Common.{take}
use Rattle.std.specs.BTreeMap.{get}
use Rattle.fb_tree.specs.Text.Order.{name_cmp}
use Rattle.fb_network.specs.Standing.{AreEdgesOf}
use Rattle.fb_network.proofs.composition.borders.borders_of_network.Given as goal

abbrev pub invariant-loop-place : goal.invariant-loop-place
invariant-loop-place l = AreEdgesOf l.network (get name_cmp l.table) l.edges.items (take l.place l.connections)
