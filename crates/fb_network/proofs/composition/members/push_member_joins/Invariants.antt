use Rattle.std.proofs.Common.{◌≡◌, ◌++◌, take}
use Rattle.fb_network.specs.Behind.{member_joins}
use Rattle.fb_network.proofs.composition.members.push_member_joins.Given as goal

abbrev pub invariant-loop-place : goal.invariant-loop-place
invariant-loop-place l = l.joins.items ≡ l.fn.joins.items ++ member_joins l.plug l.socket 0 (take l.place l.ports)
