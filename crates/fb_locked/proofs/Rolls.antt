-- What a roll leaves as it was.
use Rattle.std.proofs.Common.{◌≡◌, ◌==◌, ℕ, ◌≤◌, Bool, true, false, cond, Option, Some, None, ap, sym, ◌∙◌, arith, nat_lt, nat_le, length}
use Rattle.std.proofs.lemmas.Bool.Decides.{nat_tests}
use Rattle.fb_bench.proofs.Committing.{most_units_of}
use Rattle.fb_bench.specs.{History.Checkpoints.{checkpointed}, History.Limits.{Bounds}}
use Rattle.fb_bench.specs.History.BenchView.{BenchView, IsOrigin, all_turns, last_number, state_of}
use Rattle.fb_history.proofs.Restarts.{numbers_go_on, unseen}
use Rattle.fb_locked.specs.{Refusals.{refusal_of}, Rolling.{locked_rolled, IsRollUnseen}, Seats.{LockedView, SeatView}}
use Rattle.fb_locked.specs.{declared.locked.SharedRefused.{SharedRefused}, declared.locked.SharedRefused.TheVariants.{SeatDiffers, Behind, HistoryFull}}

same_state : (limits : Bounds) (bench : BenchView) → IsOrigin bench.origin → limits.units ≡ bench.origin.most_units → state_of (checkpointed limits bench) ≡ state_of bench
same_state limits bench begins same =
    let most : limits.units ≡ (state_of bench).most_units = same ∙ sym (most_units_of bench) in
    unseen limits bench begins ∙ (λ i. record (state_of bench) { most_units = most i })

-- which cause is first against a call, where the calls and the numbers are these
abbrev cause_at : (turns seat_turns last seen limit len : ℕ) → Option SharedRefused
cause_at turns seat_turns last seen limit len =
    cond (turns == seat_turns) (cond (nat_lt last seen) (Some (Behind seen last)) (cond (nat_le limit len) (Some HistoryFull) None)) (Some (SeatDiffers seat_turns turns))

no_cause : (turns seat_turns last seen limit len more : ℕ) (b s : Bool) → nat_le more 0 ≡ false
    → cond b (cond s (Some (Behind seen last)) (cond (nat_le limit len) (Some HistoryFull) None)) (Some (SeatDiffers seat_turns turns)) ≡ Some HistoryFull
    → cond b (cond s (Some (Behind seen last)) (cond (nat_le more 0) (Some HistoryFull) None)) (Some (SeatDiffers seat_turns turns)) ≡ None
no_cause turns seat_turns last seen limit len more true true room full = absurd (let never : ⊥ = cc in never)
no_cause turns seat_turns last seen limit len more true false room full = ap (λ (f : Bool). cond f (Some HistoryFull) None) room
no_cause turns seat_turns last seen limit len more false s room full = absurd (let never : ⊥ = cc in never)

roomy : (limit : ℕ) → 1 ≤ limit → nat_le limit 0 ≡ false
roomy limit some = grind (arith, nat_tests)

no_refusal : (limits : Bounds) (locked : LockedView) (seat : SeatView) → 1 ≤ limits.history → refusal_of locked seat ≡ Some HistoryFull → refusal_of (locked_rolled limits locked) seat ≡ None
no_refusal limits locked seat some full =
    let on = numbers_go_on limits locked.bench in
    let turns : all_turns (checkpointed limits locked.bench) seat.caller ≡ all_turns locked.bench seat.caller = on.turns seat.caller in
    let before : ◌≡◌ {A = Option SharedRefused} (cause_at (all_turns locked.bench seat.caller) seat.turns (last_number locked.bench) seat.seen limits.history 0) None =
    no_cause (all_turns locked.bench seat.caller) seat.turns (last_number locked.bench) seat.seen locked.bench.log.limit (length locked.bench.log.records) limits.history (all_turns locked.bench seat.caller == seat.turns) (nat_lt (last_number locked.bench) seat.seen) (roomy limits.history some) full in
    (λ i. cause_at (turns i) seat.turns (on.last i) seat.seen limits.history 0) ∙ before

pub roll_unseen : (limits : Bounds) (locked : LockedView) → IsOrigin locked.bench.origin → limits.units ≡ locked.bench.origin.most_units → 1 ≤ limits.history → IsRollUnseen limits locked
roll_unseen limits locked begins same some =
    let on = numbers_go_on limits locked.bench in
    record {
      state = same_state limits locked.bench begins same;
      last = on.last;
      turns = on.turns;
      none = on.none;
      seats = λ seat full. no_refusal limits locked seat some full;
    }
