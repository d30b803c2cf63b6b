use Rattle.std.proofs.Common.{◌≡◌, ◌∷◌, take}
use Rattle.fb_network.specs.Printed.{printed}
use Rattle.fb_placing.specs.Mappings.{names_used}
use Rattle.fb_placing.proofs.homes.mappings.path_of_names.Given as goal

abbrev pub invariant-loop-name : goal.invariant-loop-name
invariant-loop-name l = l.path ≡ printed (names_used (l.first ∷ take l.name-index l.others))
