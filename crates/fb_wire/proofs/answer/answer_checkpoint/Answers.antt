use Rattle.fb_wire.proofs.Conversations.{checkpoint_served}
use Rattle.fb_wire.proofs.answer.answer_checkpoint.Goals as goal

pub returns : goal.returns
returns g c = λ held. checkpoint_served g.D.Desk.step g.D.Desk.checkpoint_step g.D.Desk.read_step _ _ _ c.checkpoint-checked.result _ held c.checkpoint-checked.ensures.step c.checkpoint_reply.ensures
