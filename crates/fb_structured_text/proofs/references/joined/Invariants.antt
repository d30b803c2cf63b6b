use Rattle.fb_structured_text.proofs.Joining.{IsJoined}
use Rattle.fb_structured_text.proofs.references.joined.Given as goal

abbrev pub invariant-loop-part : goal.invariant-loop-part
invariant-loop-part l = IsJoined l.first l.yielded l.members.items l.subscripts.items l.end
