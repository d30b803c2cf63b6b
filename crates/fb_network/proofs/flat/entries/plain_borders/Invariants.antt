use Rattle.std.proofs.Common.{◌≡◌, take, map}
use Rattle.fb_network.specs.Laid.{border_at}
use Rattle.fb_network.proofs.flat.entries.plain_borders.Given as goal

abbrev pub invariant-loop-edge : goal.invariant-loop-edge
invariant-loop-edge l = l.borders.items ≡ map (border_at l.prefixes) (take l.edge-index l.edges)
