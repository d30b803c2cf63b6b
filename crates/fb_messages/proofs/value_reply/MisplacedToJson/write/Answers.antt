use Rattle.fb_messages.proofs.value_reply.MisplacedToJson.write.Goals as goal

pub returns-in-Unmapped : goal.returns-in-Unmapped
returns-in-Unmapped c = rw (c.in-Unmapped.is, ← c.as_str.ensures) c.write_two.ensures
