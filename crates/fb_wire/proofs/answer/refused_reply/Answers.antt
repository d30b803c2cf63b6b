use Rattle.std.proofs.{Common.{Err, Ok}, lemmas.Result.{err_from_is_err_and}}
use Rattle.fb_wire.proofs.Conversations.{refused_said}
use Rattle.fb_wire.proofs.answer.refused_reply.Goals as goal

pub returns : goal.returns
returns c = λ n. refused_said n c.args.refused (Ok c.in_ok-refusal_of.field-0) c.in_ok-refusal_of.ensures

pub returns-in_err-refusal_of : goal.returns-in_err-refusal_of
returns-in_err-refusal_of c =
    let p = err_from_is_err_and c.from_residual.result c.from_residual.ensures.1 in
    rw p.1 (λ n. refused_said n c.args.refused (Err c.in_err-refusal_of.field-0.0) c.in_err-refusal_of.ensures)
