use Rattle.fb_wire.proofs.answer.answer_read.Goals as goal

pub returns-in-Peek : goal.returns-in-Peek
returns-in-Peek g c = λ held. rw c.in-Peek.is (c.answer_peek.ensures held)
