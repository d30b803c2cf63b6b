use Rattle.fb_messages.proofs.value_reply.NetToJson.write.Goals as goal

pub returns-in-Recursive : goal.returns-in-Recursive
returns-in-Recursive c = rw c.in-Recursive.is c.write_one-in-Recursive.ensures
