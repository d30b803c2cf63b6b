use Rattle.fb_messages.specs.Replies.{link_item}
use Rattle.fb_messages.proofs.Entries.{WillBeList}
use Rattle.fb_messages.proofs.value_reply.write_cuts.Given as goal

abbrev pub invariant-loop-place : goal.invariant-loop-place
invariant-loop-place l = WillBeList link_item l.plan.cuts l.place l.fn.out l.out
