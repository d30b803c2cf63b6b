use Rattle.std.proofs.Common.{◌≡◌, ◌++◌, take, map}
use Rattle.fb_network.specs.Laid.{prefix_within}
use Rattle.fb_network.proofs.paths.prefixes.Prefixes.push_within.Given as goal

abbrev pub invariant-loop-prefix : goal.invariant-loop-prefix
invariant-loop-prefix l = l.self ≡ l.fn.self ++ map (prefix_within l.fn.name) (take l.prefix-index l.inner)
