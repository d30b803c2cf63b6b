use Rattle.std.proofs.Common.{◌≡◌, ◌++◌, take}
use Rattle.fb_network.specs.Behind.{joins_from}
use Rattle.fb_network.proofs.composition.pairs.push_joins_from.Given as goal

abbrev pub invariant-loop-to : goal.invariant-loop-to
invariant-loop-to l = l.joins.items ≡ l.fn.joins.items ++ joins_from l.sort (take l.to-index l.tos) l.from
