use Rattle.std.proofs.Common.{◌≡◌, take, map}
use Rattle.fb_network.specs.Laid.{edge_moved}
use Rattle.fb_network.proofs.flat.entries.edges_moved.Given as goal

abbrev pub invariant-loop-edge : goal.invariant-loop-edge
invariant-loop-edge l = l.edges.items ≡ map (edge_moved l.by) (take l.edge-index l.inner)
