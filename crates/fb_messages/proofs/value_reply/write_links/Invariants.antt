use Rattle.fb_messages.specs.Replies.{link_item}
use Rattle.fb_messages.proofs.Entries.{WillBeList}
use Rattle.fb_messages.proofs.value_reply.write_links.Given as goal

abbrev pub invariant-loop-place : goal.invariant-loop-place
invariant-loop-place l = WillBeList link_item l.flat.links l.place l.fn.out l.out
