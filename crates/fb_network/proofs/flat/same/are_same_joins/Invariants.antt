-- What is left of both lists is the same where the lists are.
use Rattle.fb_network.specs.Laid.{link_at}
use Rattle.fb_network.proofs.Alike.{SameLeftBy}
use Rattle.fb_network.proofs.flat.same.are_same_joins.Given as goal

abbrev pub invariant-loop-place : goal.invariant-loop-place
invariant-loop-place l = SameLeftBy (link_at l.prefixes) (link_at l.others) l.a l.b l.place
