-- The test of both tells whether they say the same.
use Rattle.fb_network.proofs.Alike.{one_link}
use Rattle.fb_network.proofs.flat.same.is_same_join.Goals as goal

pub returns : goal.returns
returns c = rw c.is_equal_join.ensures (one_link _ _)
