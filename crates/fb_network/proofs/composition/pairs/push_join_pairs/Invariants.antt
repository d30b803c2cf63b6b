use Rattle.std.proofs.Common.{◌≡◌, ◌++◌, take}
use Rattle.fb_network.specs.Behind.{join_pairs}
use Rattle.fb_network.proofs.composition.pairs.push_join_pairs.Given as goal

abbrev pub invariant-loop-from : goal.invariant-loop-from
invariant-loop-from l = l.joins.items ≡ l.fn.joins.items ++ join_pairs l.sort (take l.from-index l.froms) l.tos
