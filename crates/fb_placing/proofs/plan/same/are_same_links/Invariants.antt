-- What is left of both lists is the same where the lists are.
use Rattle.fb_network.specs.Numbered.{link_numbered}
use Rattle.fb_network.proofs.Alike.{SameLeftBy}
use Rattle.fb_placing.proofs.plan.same.are_same_links.Given as goal

abbrev pub invariant-loop-place : goal.invariant-loop-place
invariant-loop-place l = SameLeftBy (link_numbered l.flat) (link_numbered l.other) l.a l.b l.place
