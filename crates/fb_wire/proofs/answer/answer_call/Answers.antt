use Rattle.fb_bench.specs.Requests.{reply_in}
use Rattle.fb_wire.proofs.Conversations.{call_served}
use Rattle.fb_wire.proofs.answer.answer_call.Goals as goal

pub returns : goal.returns
returns g c = λ held. call_served g.D.Desk.step g.D.Desk.checkpoint_step g.D.Desk.read_step _ _ _ reply_in c.perform-performed.result _ held c.perform-performed.ensures.step c.call_reply.ensures
