-- What is left of both lists is the same where the lists are.
use Rattle.fb_network.specs.Laid.{block_at}
use Rattle.fb_network.proofs.Alike.{SameLeftBy}
use Rattle.fb_network.proofs.flat.same.are_same_leaves.Given as goal

abbrev pub invariant-loop-place : goal.invariant-loop-place
invariant-loop-place l = SameLeftBy (block_at l.prefixes) (block_at l.others) l.a l.b l.place
