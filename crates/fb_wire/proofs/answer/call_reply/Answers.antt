use Rattle.fb_wire.proofs.answer.call_reply.Goals as goal

pub returns-in-Err : goal.returns-in-Err
returns-in-Err c = rw c.in-Err.is (c.refused_reply.ensures 0)
