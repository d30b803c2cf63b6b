-- What is left of both lists is the same where the lists are.
use Rattle.fb_network.specs.Laid.{border_at}
use Rattle.fb_network.proofs.Alike.{SameLeftBy}
use Rattle.fb_network.proofs.flat.same.are_same_edges.Given as goal

abbrev pub invariant-loop-place : goal.invariant-loop-place
invariant-loop-place l = SameLeftBy (border_at l.prefixes) (border_at l.others) l.a l.b l.place
