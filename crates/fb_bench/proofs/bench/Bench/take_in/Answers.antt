-- The value that is kept is that of the present texts, since what was read is current.
use Rattle.std.proofs.Common.{◌≡◌, sym, ap, subst, refl, ◌∙◌, arith}
use Rattle.fb_entries.specs.{Jobs.Finished.{value_of}, Jobs.Keys.{scratch}, Jobs.Reads.{PlainJob}}
use Rattle.fb_history.specs.{declared.answers.Delivered.TheVariants.{Accepted}, Machine.{State, ToDeliver, OfDeliver, deliver_answer}}
use Rattle.fb_history.specs.BenchView.{BenchView, state_of, logged, record_after}
use Rattle.fb_bench.specs.{Consistent.{Agrees}, Founds.{HasNetsOf}}
use Rattle.fb_bench.proofs.{Marks.{accepted_fresh, agrees_deliver}, Founds.{founds_right}, Keeping.{kept_pushed}}
use Rattle.fb_history.proofs.Steps.{bench_pushed, share_pushed, delivers_is, delivered_is}
use Rattle.fb_bench.proofs.bench.Bench.take_in.Goals as goal

pub invariant_of-self-2 : goal.invariant_of-self-2
invariant_of-self-2 c =
    let bench : BenchView = c.self.inside.history in
    let s : State = state_of bench in
    let now : PlainJob = c.args.finished.now in
    let accepted : Accepted ≡ deliver_answer s now = c.requires.accepted ∙ ap (λ st. deliver_answer (state_of st) now) (sym c.self.view_is) in
    let fresh = accepted_fresh s now accepted in
    let law : scratch s.units now.key ≡ _ = c.current_reads.ensures s.units now c.reads-reads.ensures.right fresh in
    let nets : HasNetsOf s.units now = λ hint is. c.current_nets.ensures s.units now hint c.reads-reads.ensures.right fresh is in
    let rights = founds_right s.units now c.found.result.now c.in_ok-found.found.items nets c.in_ok-found.ensures c.found.ensures in
    let value : value_of c.in_ok-derivation.derivation ≡ scratch s.units c.key-key.result = ap value_of c.in_ok-derivation.ensures ∙ sym law ∙ ap (λ k. scratch s.units k) (sym c.key-key.ensures) in
    kept_pushed _ _ _ _ bench _ c.args.caller (ToDeliver now) _ c.self.invariant.begins (c.in_ok-share.ensures.ok ∙ ap (λ call. logged c.self.inside.history c.args.caller call (OfDeliver Accepted)) c.in_ok-call.ensures) (delivers_is s now now Accepted refl accepted)
    (subst (λ t. Agrees c.self.inside.library c.self.inside.commits c.keep_all.new.entries t) (sym (delivered_is s now now c.key-key.result Accepted refl c.key-key.ensures accepted))
    (c.keep_all.ensures _ _ _ (agrees_deliver _ _ c.self.inside.entries c.keep.new.self s c.key-key.result c.in_ok-derivation.derivation c.self.invariant.agrees value c.keep.ensures.entries c.keep.ensures.ready) rights))
    c.self.invariant.replayed c.self.invariant.indexed (omega (arith, c.self.invariant.few))

pub returns : goal.returns
returns c =
    let bench : BenchView = c.self.inside.history in
    let s : State = state_of bench in
    let now : PlainJob = c.args.finished.now in
    let accepted : Accepted ≡ deliver_answer s now = c.requires.accepted ∙ ap (λ st. deliver_answer (state_of st) now) (sym c.self.view_is) in
    record {
      step = bench_pushed bench _ _ c.args.caller (ToDeliver now) _ c.self.view_is (c.in_ok-share.ensures.ok ∙ ap (λ call. logged c.self.inside.history c.args.caller call (OfDeliver Accepted)) c.in_ok-call.ensures) (delivers_is s now now Accepted refl accepted);
      share = share_pushed bench _ _ c.args.caller (ToDeliver now) _ c.self.view_is (c.in_ok-share.ensures.share ∙ ap (λ call. record_after c.self.inside.history c.args.caller call (OfDeliver Accepted)) c.in_ok-call.ensures) (delivers_is s now now Accepted refl accepted);
      err = tt;
    }
