-- Where nothing is next, that is recorded, and nothing else changes.
use Rattle.std.proofs.Common.{◌≡◌, sym, ap, subst, ◌∙◌, arith, rules, None}
use Rattle.fb_history.specs.{Machine.{ToTake, next}, BenchView.{BenchView, state_of}}
use Rattle.fb_bench.specs.Consistent.{Agrees}
use Rattle.fb_bench.proofs.Keeping.{kept_pushed}
use Rattle.fb_history.proofs.Steps.{bench_pushed, share_pushed, take_none, stays_none}
use Rattle.fb_bench.proofs.bench.Bench.take_recorded.Goals as goal

pub invariant_of-self-in-None : goal.invariant_of-self-in-None
invariant_of-self-in-None c =
    let bench : BenchView = c.self.inside.history in
    let none : None ≡ next (state_of bench) = c.in-None.ensures ∙ ap (λ st. next (state_of st)) (sym c.self.view_is) in
    kept_pushed _ _ _ _ bench _ c.args.caller ToTake _ c.self.invariant.begins c.in_ok-share-in-None.ensures.ok (take_none (state_of bench) none)
    (subst (λ s. Agrees c.self.inside.library c.self.inside.commits c.self.inside.entries s) (sym (stays_none (state_of bench) none)) c.self.invariant.agrees)
    c.self.invariant.replayed c.self.invariant.indexed (omega (arith, c.self.invariant.few))

pub returns-in_ok-share-in-None : goal.returns-in_ok-share-in-None
returns-in_ok-share-in-None c =
    let bench : BenchView = c.self.inside.history in
    let none : None ≡ next (state_of bench) = c.in-None.ensures ∙ ap (λ st. next (state_of st)) (sym c.self.view_is) in
    record {
      step = bench_pushed bench _ _ c.args.caller ToTake _ c.self.view_is c.in_ok-share-in-None.ensures.ok (take_none (state_of bench) none);
      answer = take_none (state_of c.args.self.now) c.in-None.ensures;
      share = share_pushed bench _ _ c.args.caller ToTake _ c.self.view_is c.in_ok-share-in-None.ensures.share (take_none (state_of bench) none);
      full = search rules;
      err = search rules;
    }
