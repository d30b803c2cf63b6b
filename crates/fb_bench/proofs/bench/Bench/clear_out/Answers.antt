-- A key that has a value is no longer out.
use Rattle.std.proofs.Common.{◌≡◌, true, false, sym, ap, subst, ◌∙◌, arith}
use Rattle.fb_history.specs.{Machine.{State, ToGiveBack, OfGiveBack}, declared.answers.GivenBack.TheVariants.{Returned}}
use Rattle.fb_history.specs.BenchView.{BenchView, logged, record_after, state_of}
use Rattle.fb_bench.specs.Consistent.{Agrees}
use Rattle.fb_bench.proofs.{Marks.{agrees_return_kept}, Keeping.{kept_pushed}}
use Rattle.fb_history.proofs.Steps.{bench_pushed, share_pushed, out_returned, after_returned}
use Rattle.fb_bench.proofs.bench.Bench.clear_out.Goals as goal

pub invariant_of-self-2 : goal.invariant_of-self-2
invariant_of-self-2 c =
    let bench : BenchView = c.self.inside.history in
    let s : State = state_of bench in
    let key = c.args.key.now in
    let out : s.out key ≡ true = ap (λ st. (state_of st).out key) c.self.view_is ∙ c.requires.out in
    let kept : s.pending key ≡ false = ap (λ st. (state_of st).pending key) c.self.view_is ∙ c.requires.kept in
    kept_pushed _ _ _ _ bench _ c.args.caller (ToGiveBack key) _ c.self.invariant.begins (c.in_ok-share.ensures.ok ∙ ap (λ it. logged bench c.args.caller it (OfGiveBack Returned)) c.in_ok-call.ensures) (out_returned s key out)
    (subst (λ t. Agrees c.self.inside.library c.self.inside.commits c.bring_back.new.self t) (sym (after_returned s key out))
    (agrees_return_kept _ _ c.self.inside.entries c.bring_back.new.self s key c.self.invariant.agrees kept c.bring_back.ensures.entries c.bring_back.ensures.ready))
    c.self.invariant.replayed c.self.invariant.indexed (omega (arith, c.self.invariant.few))

pub returns : goal.returns
returns c =
    let bench : BenchView = c.self.inside.history in
    let s : State = state_of bench in
    let key = c.args.key.now in
    let out : s.out key ≡ true = ap (λ st. (state_of st).out key) c.self.view_is ∙ c.requires.out in
    record {
      step = bench_pushed bench _ _ c.args.caller (ToGiveBack key) _ c.self.view_is (c.in_ok-share.ensures.ok ∙ ap (λ it. logged bench c.args.caller it (OfGiveBack Returned)) c.in_ok-call.ensures) (out_returned s key out);
      share = share_pushed bench _ _ c.args.caller (ToGiveBack key) _ c.self.view_is (c.in_ok-share.ensures.share ∙ ap (λ it. record_after bench c.args.caller it (OfGiveBack Returned)) c.in_ok-call.ensures) (out_returned s key out);
      err = tt;
    }
