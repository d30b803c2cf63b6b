-- The links of one port more.
use Rattle.std.proofs.Common.{append_assoc}
use Rattle.fb_network.proofs.PortMembers.{member_joins_next}
use Rattle.fb_network.proofs.composition.members.push_member_joins.Goals as goal

pub loop-place-preserved : goal.loop-place-preserved
loop-place-preserved c =
    let next = member_joins_next c.args.plug c.args.socket c.args.ports.now c.loop-place.place c.index-ports-place.result c.loop-place-test.true c.index-ports-place.is in
    rw (c.in_ok-push.ensures.items, c.loop-place.invariant, c.join_at.ensures, c.in_ok-end.ensures.same, append_assoc, next)
