use Rattle.std.proofs.Common.{◌≡◌, ◌++◌, take, map}
use Rattle.fb_network.specs.Laid.{join_moved}
use Rattle.fb_network.proofs.flat.entries.push_joins_moved.Given as goal

abbrev pub invariant-loop-join : goal.invariant-loop-join
invariant-loop-join l = l.joins.items ≡ l.fn.joins.items ++ map (join_moved l.by) (take l.join-index l.inner)
