-- The key is marked as handed out, and is not among the ready ones.
use Rattle.std.proofs.Common.{◌≡◌, sym, ap, subst, ◌∙◌, arith, Some}
use Rattle.fb_history.specs.{Machine.{State, ToTake, reply, next}, BenchView.{BenchView, state_of}}
use Rattle.fb_bench.specs.{Records.{reply_of}, Consistent.{Agrees}}
use Rattle.fb_history.proofs.{Least.{next_passes}, Steps.{bench_pushed, share_pushed, stays_some}}
use Rattle.fb_bench.proofs.{Marks.{agrees_take}, Keeping.{kept_pushed}}
use Rattle.fb_bench.proofs.bench.Bench.hand_out.Goals as goal

pub invariant_of-self-2 : goal.invariant_of-self-2
invariant_of-self-2 c =
    let bench : BenchView = c.self.inside.history in
    let s : State = state_of bench in
    let key = c.args.key.now in
    let some : Some key ≡ next s = c.requires.next ∙ ap (λ st. next (state_of st)) (sym c.self.view_is) in
    let answer : reply_of c.args.answer ≡ reply s ToTake = c.requires.answer ∙ ap (λ st. reply (state_of st) ToTake) (sym c.self.view_is) in
    kept_pushed _ _ _ _ bench _ c.args.caller ToTake _ c.self.invariant.begins c.in_ok-share.ensures.ok answer
    (subst (λ t. Agrees c.self.inside.library c.self.inside.commits c.hand_out.new.self t) (sym (stays_some s key some))
    (agrees_take _ _ c.self.inside.entries c.hand_out.new.self s key c.self.invariant.agrees (next_passes s key some) c.hand_out.ensures.entries c.hand_out.ensures.ready))
    c.self.invariant.replayed c.self.invariant.indexed (omega (arith, c.self.invariant.few))

pub returns : goal.returns
returns c =
    let bench : BenchView = c.self.inside.history in
    let s : State = state_of bench in
    let answer : reply_of c.args.answer ≡ reply s ToTake = c.requires.answer ∙ ap (λ st. reply (state_of st) ToTake) (sym c.self.view_is) in
    record {
      step = bench_pushed bench _ _ c.args.caller ToTake _ c.self.view_is c.in_ok-share.ensures.ok answer;
      share = share_pushed bench _ _ c.args.caller ToTake _ c.self.view_is c.in_ok-share.ensures.share answer;
      err = tt;
    }
