-- A key that is given back is ready again if it waits for a result.
use Rattle.std.proofs.Common.{◌≡◌, true, sym, ap, subst, ◌∙◌, arith}
use Rattle.fb_history.specs.{Machine.{State, ToGiveBack, OfGiveBack}, declared.answers.GivenBack.TheVariants.{Returned}}
use Rattle.fb_history.specs.BenchView.{BenchView, logged, record_after, state_of}
use Rattle.fb_bench.specs.Consistent.{Agrees, IsConsistent}
use Rattle.fb_bench.proofs.{Marks.{agrees_return, agrees_same, agrees_unready}, Keeping.{kept_pushed}}
use Rattle.fb_history.proofs.Steps.{bench_pushed, share_pushed, out_returned, after_returned}
use Rattle.fb_bench.proofs.bench.Bench.make_ready.Goals as goal

pub invariant_of-self : goal.invariant_of-self
invariant_of-self c =
    let kept = c.self.invariant in
    record {
      begins = kept.begins;
      agrees = agrees_same _ _ c.self.inside.entries c.make_ready.new.self _ kept.agrees c.make_ready.ensures.entries c.in_err-make_ready.ensures.err;
      replayed = kept.replayed;
      indexed = kept.indexed;
      few = kept.few;
    }

pub invariant_of-self-in-Ok : goal.invariant_of-self-in-Ok
invariant_of-self-in-Ok c =
    let bench : BenchView = c.self.inside.history in
    let s : State = state_of bench in
    let key = c.args.key.now in
    let out : s.out key ≡ true = ap (λ st. (state_of st).out key) c.self.view_is ∙ c.requires.out in
    let waits : s.pending key ≡ true = ap (λ st. (state_of st).pending key) c.self.view_is ∙ c.requires.waits in
    kept_pushed _ _ _ _ bench _ c.args.caller (ToGiveBack key) _ c.self.invariant.begins (c.in-Ok.ensures.ok ∙ ap (λ it. logged bench c.args.caller it (OfGiveBack Returned)) c.in_ok-call.ensures) (out_returned s key out)
    (subst (λ t. Agrees c.self.inside.library c.self.inside.commits c.bring_back.new.self t) (sym (after_returned s key out))
    (agrees_return _ _ c.self.inside.entries c.make_ready.new.self c.bring_back.new.self s key c.self.invariant.agrees waits c.make_ready.ensures.entries c.in_ok-make_ready.ensures.ok c.bring_back.ensures.entries c.bring_back.ensures.ready))
    c.self.invariant.replayed c.self.invariant.indexed (omega (arith, c.self.invariant.few))

pub returns-in-Ok : goal.returns-in-Ok
returns-in-Ok c =
    let bench : BenchView = c.self.inside.history in
    let s : State = state_of bench in
    let key = c.args.key.now in
    let out : s.out key ≡ true = ap (λ st. (state_of st).out key) c.self.view_is ∙ c.requires.out in
    record {
      step = bench_pushed bench _ _ c.args.caller (ToGiveBack key) _ c.self.view_is (c.in-Ok.ensures.ok ∙ ap (λ it. logged bench c.args.caller it (OfGiveBack Returned)) c.in_ok-call.ensures) (out_returned s key out);
      share = share_pushed bench _ _ c.args.caller (ToGiveBack key) _ c.self.view_is (c.in-Ok.ensures.share ∙ ap (λ it. record_after bench c.args.caller it (OfGiveBack Returned)) c.in_ok-call.ensures) (out_returned s key out);
      err = tt;
    }

pub invariant_of-self-in-Err : goal.invariant_of-self-in-Err
invariant_of-self-in-Err c =
    let bench : BenchView = c.self.inside.history in
    let s : State = state_of bench in
    let key = c.args.key.now in
    let out : s.out key ≡ true = ap (λ st. (state_of st).out key) c.self.view_is ∙ c.requires.out in
    let kept = c.self.invariant in
    subst (λ l. IsConsistent c.self.inside.library c.self.inside.commits c.unmake_ready.new.self c.self.inside.index l) (sym c.in-Err.ensures.err)
    (record {
      begins = kept.begins;
      agrees = agrees_unready _ _ c.self.inside.entries c.make_ready.new.self c.unmake_ready.new.self s key kept.agrees out c.make_ready.ensures.entries c.in_ok-make_ready.ensures.ok c.unmake_ready.ensures.entries c.unmake_ready.ensures.ready;
      replayed = kept.replayed;
      indexed = kept.indexed;
      few = kept.few;
    })
