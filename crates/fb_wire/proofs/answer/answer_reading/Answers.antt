use Rattle.fb_wire.proofs.Conversations.{read_served}
use Rattle.fb_wire.proofs.answer.answer_reading.Goals as goal

pub returns : goal.returns
returns g c = λ held. read_served g.D.Desk.step g.D.Desk.checkpoint_step g.D.Desk.read_step _ _ _ c.read-shown.result _ held c.read-shown.ensures c.read_reply.ensures
