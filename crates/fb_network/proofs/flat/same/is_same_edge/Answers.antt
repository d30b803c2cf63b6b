-- The test of both tells whether they say the same.
use Rattle.fb_network.proofs.Alike.{one_border}
use Rattle.fb_network.proofs.flat.same.is_same_edge.Goals as goal

pub returns : goal.returns
returns c = rw c.is_equal_edge.ensures (one_border _ _)
