use Rattle.serde_json.specs.Data.{string}
use Rattle.fb_messages.proofs.Entries.{WillBeList}
use Rattle.fb_messages.proofs.value_reply.write_commands.Given as goal

abbrev pub invariant-loop-place : goal.invariant-loop-place
invariant-loop-place l = WillBeList string l.resource.commands l.place l.fn.out l.out
