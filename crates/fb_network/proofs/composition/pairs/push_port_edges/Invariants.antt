use Rattle.std.proofs.Common.{◌≡◌, ◌++◌, take}
use Rattle.fb_network.specs.{declared.network.End.TheVariants.{Own}, Behind.{edges_of_end}}
use Rattle.fb_network.proofs.composition.pairs.push_port_edges.Given as goal

abbrev pub invariant-loop-place : goal.invariant-loop-place
invariant-loop-place l = l.edges.items ≡ l.fn.edges.items ++ edges_of_end l.sort (Own l.port) (take l.place-index l.places)
