use Rattle.fb_messages.specs.Replies.{resource_item}
use Rattle.fb_messages.proofs.Entries.{WillBeList}
use Rattle.fb_messages.proofs.value_reply.write_resources.Given as goal

abbrev pub invariant-loop-place : goal.invariant-loop-place
invariant-loop-place l = WillBeList resource_item l.plan.resources l.place l.fn.out l.out
