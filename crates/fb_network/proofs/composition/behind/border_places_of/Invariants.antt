use Rattle.std.proofs.Common.{◌≡◌, take}
use Rattle.fb_network.specs.Behind.{border_places_at}
use Rattle.fb_network.proofs.composition.behind.border_places_of.Given as goal

abbrev pub invariant-loop-edge : goal.invariant-loop-edge
invariant-loop-edge l = l.places.items ≡ border_places_at l.sort l.port (take l.edge-index l.borders)
