use Rattle.fb_messages.specs.Replies.{block_item}
use Rattle.fb_messages.proofs.Entries.{WillBeList}
use Rattle.fb_messages.proofs.value_reply.write_blocks.Given as goal

abbrev pub invariant-loop-place : goal.invariant-loop-place
invariant-loop-place l = WillBeList block_item l.flat.blocks l.place l.fn.out l.out
