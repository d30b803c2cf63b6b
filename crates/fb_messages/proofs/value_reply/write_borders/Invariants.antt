use Rattle.fb_messages.specs.Replies.{border_item}
use Rattle.fb_messages.proofs.Entries.{WillBeList}
use Rattle.fb_messages.proofs.value_reply.write_borders.Given as goal

abbrev pub invariant-loop-place : goal.invariant-loop-place
invariant-loop-place l = WillBeList border_item l.flat.borders l.place l.fn.out l.out
