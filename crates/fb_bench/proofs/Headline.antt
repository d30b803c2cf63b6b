-- Answers by the texts and the calls alone, and what refusals leave.
use Rattle.std.proofs.Common.{◌≡◌, ℕ, Bool, true, false, ◌&&◌, not, refl, sym, ap, cond, ◌∙◌}
use Rattle.fb_entries.specs.{Jobs.declared.keys.key.Key.{Key}, Jobs.Keys.{Finding, has_key, scratch}}
use Rattle.fb_history.specs.Machine.{Call, ToCommit, ToTake, ToDeliver, ToGiveBack, ToAsk, Reply, OfCommit, OfTake, OfDeliver, OfGiveBack, OfAsk, Shown, Finds, Waits, Unknown, shown}
use Rattle.fb_history.specs.{BenchView.{BenchView, IsOrigin, opened, calls_of, recorded, reply_at, state_of}, Due.{due_from}, Laws.{is_refusal}}
use Rattle.fb_history.proofs.{AfterCalls.{entry_is, refused_stays}, Dues.{pending_is_due}, Steps.{reply_ask, state_recorded}}
use Rattle.fb_bench.specs.Headline.{LeavesState, ShowsEntry, is_waiting}

waiting_bits : (r : Shown) (h p d : Bool) (f : Finding) → p ≡ (h && d) → r ≡ cond (not h) Unknown (cond p Waits (Finds f)) → is_waiting r ≡ (h && d)
waiting_bits Unknown false p d f is e = refl
waiting_bits Waits false p d f is e = cc
waiting_bits (Finds v) false p d f is e = cc
waiting_bits Unknown true true d f is e = cc
waiting_bits Unknown true false d f is e = cc
waiting_bits Waits true true d f is e = is
waiting_bits Waits true false d f is e = cc
waiting_bits (Finds v) true true d f is e = cc
waiting_bits (Finds v) true false d f is e = is

asked_is : (r : Shown) (bench : BenchView) (k : Key) → OfAsk r ≡ reply_at bench (ToAsk k) → r ≡ shown (state_of bench) k
asked_is r bench k e = cc (e ∙ reply_ask (state_of bench) k)

-- what is answered to an ask
pub shows_asked : (r : Shown) (bench : BenchView) (k : Key) → IsOrigin bench.origin → OfAsk r ≡ reply_at bench (ToAsk k) → ShowsEntry bench (ToAsk k) (OfAsk r)
shows_asked r bench k begins e =
    let is = asked_is r bench k e in (
      is ∙ entry_is bench.origin (calls_of bench.log) k begins,
      waiting_bits r (has_key (state_of bench).units k) ((state_of bench).pending k) (due_from (opened bench.origin) (calls_of bench.log) k) (scratch (state_of bench).units k) (pending_is_due bench k begins) is,
    )

pub shows_entry : (bench : BenchView) (call : Call) (answer : Reply) → IsOrigin bench.origin → answer ≡ reply_at bench call → ShowsEntry bench call answer
shows_entry bench (ToAsk k) (OfAsk r) begins e = shows_asked r bench k begins e
shows_entry bench (ToAsk k) (OfCommit r) begins e = tt
shows_entry bench (ToAsk k) (OfTake r) begins e = tt
shows_entry bench (ToAsk k) (OfDeliver r) begins e = tt
shows_entry bench (ToAsk k) (OfGiveBack r) begins e = tt
shows_entry bench (ToCommit edits) r begins e = tt
shows_entry bench ToTake r begins e = tt
shows_entry bench (ToDeliver job) r begins e = tt
shows_entry bench (ToGiveBack k) r begins e = tt

-- a refusal leaves the state
pub leaves_state : (old new : BenchView) (caller : ℕ) (call : Call) (answer : Reply) → new ≡ recorded old caller call → answer ≡ reply_at old call → LeavesState old answer new
leaves_state old new caller call answer step is refuses =
    ap state_of step ∙ state_recorded old caller call ∙ refused_stays (state_of old) call (ap is_refusal (sym is) ∙ refuses)
