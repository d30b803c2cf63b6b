-- What is left is in range, and in order.
use Rattle.std.proofs.Common.{refl, length}
use Rattle.fb_network.specs.Laid.{IsEdgeBelow, IsJoinBelow}
use Rattle.fb_network.proofs.{Drafts.{once_ordered}, SortedOnce.{all_left}}
use Rattle.fb_network.proofs.composition.draft.finish.Goals as goal

pub invariant_of-result : goal.invariant_of-result
invariant_of-result c =
    let count = length c.args.draft.prefixes in
    rw (c.in_ok-tables.ensures.ok, c.shrink_to_fit.ensures, c.shrink_to_fit-2.ensures.items, c.shrink_to_fit-3.ensures.items, c.shrink_to_fit-4.ensures.items)
    (record {
      leaves_below = c.requires.leaves_below;
      joins_below = all_left (IsJoinBelow count) c.args.draft.joins.items c.sort_joins.new.joins.items c.in_ok-sort_joins.ensures c.requires.joins_below;
      edges_below = all_left (IsEdgeBelow count) c.args.edges.items c.sort_edges.new.edges.items c.in_ok-sort_edges.ensures c.requires.edges_below;
    })

pub returns : goal.returns
returns c =
    rw (c.in_ok-tables.ensures.ok, c.shrink_to_fit.ensures, c.shrink_to_fit-2.ensures.items, c.shrink_to_fit-3.ensures.items, c.shrink_to_fit-4.ensures.items) (record { blocks = refl; links = once_ordered c.args.draft.joins.items c.sort_joins.new.joins.items c.in_ok-sort_joins.ensures; borders = once_ordered c.args.edges.items c.sort_edges.new.edges.items c.in_ok-sort_edges.ensures })
