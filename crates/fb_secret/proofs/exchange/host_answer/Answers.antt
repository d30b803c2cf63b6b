use Rattle.std.proofs.Common.{◌≡◌, ◌∙◌, IsTrue, ap, arith, drop, length, sym, take}
use Rattle.fb_secret.specs.Exchange.{client_line}
use Rattle.fb_secret.proofs.LineLemmas.{client_of, length-client_line}
use Rattle.fb_secret.proofs.exchange.host_answer.Goals as goal

pub returns-then-line-ne-CLIENT_LINE_SIZE : goal.returns-then-line-ne-CLIENT_LINE_SIZE
returns-then-line-ne-CLIENT_LINE_SIZE c = λ client proves. c.if-line-ne-CLIENT_LINE_SIZE.true (ap length proves.1 ∙ length-client_line c.args.secret.now c.args.host.now client proves.0)

pub returns-then-not-is_same : goal.returns-then-not-is_same
returns-then-not-is_same c = λ client proves.
    let secret = c.args.secret.now in
    let host = c.args.host.now in
    let own : take 64 (drop 89 c.args.line.now) ≡ client = ap (λ line. take 64 (drop 89 line)) proves.1 ∙ client_of secret host client proves.0 in
    let same : IsTrue c.is_same.result = c.is_same.ensures.1 (proves.1 ∙ (ap (λ it. client_line secret host it) (sym own) ∙ (sym c.in_ok-wanted.ensures ∙ sym c.deref.ensures.value))) in
    grind (arith, same, c.if-not-is_same.true)
