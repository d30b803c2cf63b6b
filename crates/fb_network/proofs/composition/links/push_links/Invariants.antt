-- The draft has the links of the connections passed so far.
use Rattle.std.proofs.Common.{take}
use Rattle.std.specs.BTreeMap.{get}
use Rattle.fb_tree.specs.Text.Order.{name_cmp}
use Rattle.fb_network.specs.Standing.{AddsConnections}
use Rattle.fb_network.proofs.composition.links.push_links.Given as goal

abbrev pub invariant-loop-place : goal.invariant-loop-place
invariant-loop-place g l = AddsConnections (g.V.Networks.networks l.view) l.network (get name_cmp l.table) l.fn.draft l.draft (take l.place l.connections)
