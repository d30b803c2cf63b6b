use Rattle.std.proofs.Common.{◌≡◌, ℕ, List, ◌||◌, ◌&&◌, take}
use Rattle.std.specs.Ordering.{eq_by_cmp}
use Rattle.fb_tree.specs.Text.Order.{name_cmp}
use Rattle.fb_iface.specs.Library.Seen.{has_name}
use Rattle.fb_types.specs.Graph.{edges_at}
use Rattle.fb_types.proofs.graph.add_edges.Given as goal

abbrev pub invariant-loop-name : goal.invariant-loop-name
invariant-loop-name l =
    (u v : List ℕ) → has_name (edges_at l.edges u) v ≡ (has_name (edges_at l.fn.edges u) v || (has_name (take l.name-index l.from) u && eq_by_cmp name_cmp v l.to))
