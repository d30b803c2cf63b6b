-- The question is recorded with the machine's answer, and nothing else changes.
use Rattle.std.proofs.Common.{◌≡◌, sym, ap, subst, ◌∙◌, arith}
use Rattle.fb_history.specs.{Machine.{ToAsk, OfAsk, reply, shown}, BenchView.{BenchView, logged, record_after, state_of}}
use Rattle.fb_bench.specs.{Records.{reply_of}, Consistent.{Agrees}}
use Rattle.fb_bench.proofs.Keeping.{kept_pushed}
use Rattle.fb_history.proofs.Steps.{bench_pushed, share_pushed, reply_ask, after_ask}
use Rattle.fb_bench.proofs.bench.Bench.ask_recorded.Goals as goal

pub invariant_of-self-2 : goal.invariant_of-self-2
invariant_of-self-2 c =
    let bench : BenchView = c.self.inside.history in
    let answer : reply_of c.in_ok-answer.stored ≡ reply (state_of bench) (ToAsk c.args.key) = c.in_ok-answer.ensures.stored ∙ ap (λ st. OfAsk (shown (state_of st) c.args.key)) (sym c.self.view_is) ∙ sym (reply_ask _ _) in
    kept_pushed _ _ _ _ bench _ c.args.caller (ToAsk c.args.key) _ c.self.invariant.begins (c.in_ok-share.ensures.ok ∙ ap (λ k. logged bench c.args.caller (ToAsk k) (reply_of c.in_ok-answer.stored)) c.in_ok-answer.ensures.key) answer
    (subst (λ s. Agrees c.self.inside.library c.self.inside.commits c.self.inside.entries s) (sym (after_ask (state_of bench) c.args.key)) c.self.invariant.agrees)
    c.self.invariant.replayed c.self.invariant.indexed (omega (arith, c.self.invariant.few))

pub returns-clause-step : goal.returns-clause-step
returns-clause-step c =
    let bench : BenchView = c.self.inside.history in
    let answer : reply_of c.in_ok-answer.stored ≡ reply (state_of bench) (ToAsk c.args.key) = c.in_ok-answer.ensures.stored ∙ ap (λ st. OfAsk (shown (state_of st) c.args.key)) (sym c.self.view_is) ∙ sym (reply_ask _ _) in
    bench_pushed bench _ _ c.args.caller (ToAsk c.args.key) _ c.self.view_is (c.in_ok-share.ensures.ok ∙ ap (λ k. logged bench c.args.caller (ToAsk k) (reply_of c.in_ok-answer.stored)) c.in_ok-answer.ensures.key) answer

pub returns-clause-answer : goal.returns-clause-answer
returns-clause-answer c = ap OfAsk c.in_ok-answer.ensures.answer ∙ sym (reply_ask _ _)

pub returns-clause-share : goal.returns-clause-share
returns-clause-share c =
    let bench : BenchView = c.self.inside.history in
    let answer : reply_of c.in_ok-answer.stored ≡ reply (state_of bench) (ToAsk c.args.key) = c.in_ok-answer.ensures.stored ∙ ap (λ st. OfAsk (shown (state_of st) c.args.key)) (sym c.self.view_is) ∙ sym (reply_ask _ _) in
    share_pushed bench _ _ c.args.caller (ToAsk c.args.key) _ c.self.view_is (c.in_ok-share.ensures.share ∙ ap (λ k. record_after bench c.args.caller (ToAsk k) (reply_of c.in_ok-answer.stored)) c.in_ok-answer.ensures.key) answer
