use Rattle.std.proofs.Common.{◌≡◌, map, take}
use Rattle.fb_placing.specs.Mappings.{names_used}
use Rattle.fb_placing.proofs.homes.names_of.Given as goal

abbrev pub invariant-loop-name : goal.invariant-loop-name
invariant-loop-name l = map (λ n. n.now) l.texts.items ≡ names_used (take l.name-index l.names)
