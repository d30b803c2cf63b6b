use Rattle.fb_bench.specs.Calls.{Exchanges}
use Rattle.fb_wire.proofs.Conversations.{none_served}
use Rattle.std.proofs.lemmas.Result.{err_from_is_err_and}
use Rattle.fb_wire.proofs.answer.answer_job.Goals as goal

pub returns : goal.returns
returns g c = λ held. rw c.in_ok-finished.ensures at (c.answer_call.ensures held)

pub returns-in_err-finished : goal.returns-in_err-finished
returns-in_err-finished g c =
    let p = err_from_is_err_and c.from_residual.result c.from_residual.ensures.1 in
    rw p.1 (λ held. none_served (Exchanges g.D.Desk.step g.D.Desk.checkpoint_step g.D.Desk.read_step) _ _ _ held)
