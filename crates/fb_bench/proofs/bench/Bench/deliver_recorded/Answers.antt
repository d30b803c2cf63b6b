-- A result that is accepted was read from texts that are still there. One that is not is recorded, and nothing else changes.
use Rattle.std.proofs.Common.{◌≡◌, sym, ap, subst, refl, ◌∙◌, arith, rules}
use Rattle.fb_entries.specs.{Jobs.Reads.{PlainJob}, Jobs.Values.{all_seen}}
use Rattle.fb_history.specs.{declared.answers.Delivered.TheVariants.{Accepted}, Machine.{State, ToDeliver, deliver_answer}}
use Rattle.fb_history.specs.BenchView.{BenchView, state_of, logged, record_after}
use Rattle.fb_bench.specs.Consistent.{Agrees}
use Rattle.fb_bench.proofs.{Marks.{deliver_stays}, Keeping.{kept_pushed}}
use Rattle.fb_history.proofs.Steps.{bench_pushed, share_pushed, delivers_is, delivered_is}
use Rattle.fb_bench.proofs.bench.Bench.deliver_recorded.Goals as goal

pub take_in-requires : goal.take_in-requires
take_in-requires c =
    let now : PlainJob = c.args.finished.now in
    let judged : ◌≡◌ {A = PlainJob} (record { key = c.key.result; reads = all_seen c.reads.result.now }) now = λ i. record { key = c.key.ensures i; reads = c.reads.ensures.same i } in
    let accepted : Accepted ≡ deliver_answer (state_of c.args.self.now) now = c.in-Accepted.ensures ∙ ap (λ o. deliver_answer (state_of c.args.self.now) o) judged in
    record {
      room = search rules;
      accepted = accepted;
    }

pub returns-in_ok-share-in-Accepted-clause-answer : goal.returns-in_ok-share-in-Accepted-clause-answer
returns-in_ok-share-in-Accepted-clause-answer c =
    let now : PlainJob = c.args.finished.now in
    let judged : ◌≡◌ {A = PlainJob} (record { key = c.key.result; reads = all_seen c.reads.result.now }) now = λ i. record { key = c.key.ensures i; reads = c.reads.ensures.same i } in
    delivers_is (state_of c.args.self.now) now now Accepted refl (c.in-Accepted.ensures ∙ ap (λ o. deliver_answer (state_of c.args.self.now) o) judged)

pub invariant_of-self-in_default : goal.invariant_of-self-in_default
invariant_of-self-in_default c =
    let bench : BenchView = c.self.inside.history in
    let s : State = state_of bench in
    let now : PlainJob = c.args.finished.now in
    let judged : ◌≡◌ {A = PlainJob} (record { key = c.key.result; reads = all_seen c.reads.result.now }) now = λ i. record { key = c.key.ensures i; reads = c.reads.ensures.same i } in
    let answer : c.judged.result ≡ deliver_answer s now = c.judged.ensures ∙ (λ i. deliver_answer (state_of (sym c.self.view_is i)) (judged i)) in
    kept_pushed _ _ _ _ bench _ c.args.caller (ToDeliver now) _ c.self.invariant.begins
    (c.in_ok-share-in_default.ensures.ok ∙ (λ i. logged c.self.inside.history c.args.caller (c.in_ok-call-in_default.ensures i) (c.in_ok-reply-in_default.ensures i)))
    (delivers_is s now now c.judged.result refl answer)
    (subst (λ t. Agrees c.self.inside.library c.self.inside.commits c.self.inside.entries t) (sym (delivered_is s now now now.key c.judged.result refl refl answer ∙ deliver_stays c.judged.result now.key s c.in_default.not-Accepted)) c.self.invariant.agrees)
    c.self.invariant.replayed c.self.invariant.indexed (omega (arith, c.self.invariant.few))

pub returns-in_ok-share-in_default : goal.returns-in_ok-share-in_default
returns-in_ok-share-in_default c =
    let bench : BenchView = c.self.inside.history in
    let s : State = state_of bench in
    let now : PlainJob = c.args.finished.now in
    let judged : ◌≡◌ {A = PlainJob} (record { key = c.key.result; reads = all_seen c.reads.result.now }) now = λ i. record { key = c.key.ensures i; reads = c.reads.ensures.same i } in
    let answer : c.judged.result ≡ deliver_answer s now = c.judged.ensures ∙ (λ i. deliver_answer (state_of (sym c.self.view_is i)) (judged i)) in
    record {
      step = bench_pushed bench _ _ c.args.caller (ToDeliver now) _ c.self.view_is
          (c.in_ok-share-in_default.ensures.ok ∙ (λ i. logged c.self.inside.history c.args.caller (c.in_ok-call-in_default.ensures i) (c.in_ok-reply-in_default.ensures i)))
          (delivers_is s now now c.judged.result refl answer);
      share = share_pushed bench _ _ c.args.caller (ToDeliver now) _ c.self.view_is
          (c.in_ok-share-in_default.ensures.share ∙ (λ i. record_after c.self.inside.history c.args.caller (c.in_ok-call-in_default.ensures i) (c.in_ok-reply-in_default.ensures i)))
          (delivers_is s now now c.judged.result refl answer);
      answer = delivers_is (state_of c.args.self.now) now now c.judged.result refl (c.judged.ensures ∙ ap (λ o. deliver_answer (state_of c.args.self.now) o) judged);
      full = search rules;
      err = search rules;
    }
