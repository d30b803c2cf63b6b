-- A key that is not out stays as it is.
use Rattle.std.proofs.Common.{◌≡◌, false, sym, ap, subst, ◌∙◌, arith, rules}
use Rattle.fb_history.specs.{Machine.{State, ToGiveBack, OfGiveBack}, declared.answers.GivenBack.TheVariants.{NothingOut}}
use Rattle.fb_history.specs.BenchView.{BenchView, logged, record_after, state_of}
use Rattle.fb_bench.specs.Consistent.{Agrees}
use Rattle.fb_bench.proofs.Keeping.{kept_pushed}
use Rattle.fb_history.proofs.Steps.{bench_pushed, share_pushed, out_returned, nothing_out, after_nothing_out}
use Rattle.fb_bench.proofs.bench.Bench.give_back_recorded.Goals as goal

pub invariant_of-self-then-not-is_out : goal.invariant_of-self-then-not-is_out
invariant_of-self-then-not-is_out c =
    let bench : BenchView = c.self.inside.history in
    let s : State = state_of bench in
    let free : s.out c.args.key ≡ false = ap (λ st. (state_of st).out c.args.key) c.self.view_is ∙ search rules in
    kept_pushed _ _ _ _ bench _ c.args.caller (ToGiveBack c.args.key) _ c.self.invariant.begins (c.in_ok-share.ensures.ok ∙ ap (λ it. logged bench c.args.caller it (OfGiveBack NothingOut)) c.in_ok-call.ensures) (nothing_out s c.args.key free)
    (subst (λ t. Agrees c.self.inside.library c.self.inside.commits c.self.inside.entries t) (sym (after_nothing_out s c.args.key free)) c.self.invariant.agrees)
    c.self.invariant.replayed c.self.invariant.indexed (omega (arith, c.self.invariant.few))

pub returns-then-not-is_out-clause-step : goal.returns-then-not-is_out-clause-step
returns-then-not-is_out-clause-step c =
    let bench : BenchView = c.self.inside.history in
    let s : State = state_of bench in
    let free : s.out c.args.key ≡ false = ap (λ st. (state_of st).out c.args.key) c.self.view_is ∙ search rules in
    bench_pushed bench _ _ c.args.caller (ToGiveBack c.args.key) _ c.self.view_is (c.in_ok-share.ensures.ok ∙ ap (λ it. logged bench c.args.caller it (OfGiveBack NothingOut)) c.in_ok-call.ensures) (nothing_out s c.args.key free)

pub returns-then-not-is_out-clause-answer : goal.returns-then-not-is_out-clause-answer
returns-then-not-is_out-clause-answer c = nothing_out (state_of c.args.self.now) c.args.key (search rules)

pub returns-then-not-is_out-clause-share : goal.returns-then-not-is_out-clause-share
returns-then-not-is_out-clause-share c =
    let bench : BenchView = c.self.inside.history in
    let s : State = state_of bench in
    let free : s.out c.args.key ≡ false = ap (λ st. (state_of st).out c.args.key) c.self.view_is ∙ search rules in
    share_pushed bench _ _ c.args.caller (ToGiveBack c.args.key) _ c.self.view_is (c.in_ok-share.ensures.share ∙ ap (λ it. record_after bench c.args.caller it (OfGiveBack NothingOut)) c.in_ok-call.ensures) (nothing_out s c.args.key free)

pub returns-clause-answer : goal.returns-clause-answer
returns-clause-answer c = out_returned (state_of c.args.self.now) c.args.key (search rules)
