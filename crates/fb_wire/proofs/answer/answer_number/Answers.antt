use Rattle.fb_bench.specs.Calls.{Exchanges}
use Rattle.fb_wire.proofs.Conversations.{reaches_itself}
use Rattle.fb_wire.proofs.answer.answer_number.Goals as goal

pub returns-in-None : goal.returns-in-None
returns-in-None g c = rw (← c.in-None.ensures) (reaches_itself (Exchanges g.D.Desk.step g.D.Desk.checkpoint_step g.D.Desk.read_step) _ _)

pub returns-in-Some : goal.returns-in-Some
returns-in-Some g c = rw (← c.in-Some.ensures) (c.answer_job.ensures c.args.held.now)
