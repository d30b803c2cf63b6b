use Rattle.std.proofs.lemmas.Result.{err_from_is_err_and}
use Rattle.fb_bench.specs.Calls.{Exchanges}
use Rattle.fb_wire.proofs.Conversations.{reaches_itself}
use Rattle.fb_wire.proofs.line.answer_line.Goals as goal

pub returns : goal.returns
returns g c = rw (← c.answers_reads-has_reads.ensures, ← c.in_ok-request.ensures) c.answer.ensures

pub returns-in_err-request : goal.returns-in_err-request
returns-in_err-request g c =
    let p = err_from_is_err_and c.from_residual.result c.from_residual.ensures.1 in
    rw p.1 (_, reaches_itself (Exchanges g.D.Desk.step g.D.Desk.checkpoint_step g.D.Desk.read_step) _ _)
