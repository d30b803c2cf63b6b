-- How a desk with a seat names why a call is refused.
use Rattle.std.proofs.Common.{◌≡◌, ◌==◌, Bool, Err, None, Option, Result, Some, ap, arith, cond, length, nat_le, nat_lt, subst, true, false}
use Rattle.std.proofs.lemmas.Bool.Decides.{nat_tests}
use Rattle.fb_locked.specs.{History.BenchView.{all_turns, last_number}, Book.{SeatFits}, Refusals.{refusal_of, RefusedAs}, Seats.{LockedView, SeatView}}
use Rattle.fb_locked.specs.{Bench.declared.answers.Answered.{Answered}, Bench.declared.desk.DeskError.{DeskError}, declared.locked.SharedRefused.{SharedRefused}}
use Rattle.fb_locked.specs.Bench.declared.desk.DeskError.TheVariants as desk
use Rattle.fb_locked.specs.declared.locked.SharedRefused.TheVariants as cause
use Rattle.fb_shared.specs.{Seated.{desk_refusal, RefusedAtDesk}, UnderLock.{IsBehind, UnderLock}}

pub desk_refused : (why : Option SharedRefused) (refused : SharedRefused) → RefusedAs why refused → RefusedAtDesk why (Err (desk_refusal refused))
desk_refused None refused is = ap desk_refusal is
desk_refused (Some why) refused is = ap desk_refusal is

-- only a full history is against a call with a seat that fits
cause_of_fitting : (locked : LockedView) (seat : SeatView) → SeatFits locked seat → refusal_of locked seat ≡ cond (nat_le locked.bench.log.limit (length locked.bench.log.records)) (Some cause.HistoryFull) None
cause_of_fitting locked seat fits =
    let same : (all_turns locked.bench seat.caller == seat.turns) ≡ true = grind (arith, nat_tests) in
    let seen : nat_lt (last_number locked.bench) seat.seen ≡ false = grind (arith, nat_tests) in
    (λ i. cond (same i) (cond (seen i) (Some (cause.Behind seat.seen (last_number locked.bench))) (cond (nat_le locked.bench.log.limit (length locked.bench.log.records)) (Some cause.HistoryFull) None)) (Some (cause.SeatDiffers seat.turns (all_turns locked.bench seat.caller))))

named_otherwise : (is_full : Bool) → RefusedAtDesk (cond is_full (Some cause.HistoryFull) None) (Err desk.Behind) → ⊥
named_otherwise true is = cc
named_otherwise false is = cc

-- a desk that answers `Behind` has a seat that did not fit
pub behind_named : (seat : SeatView) (answer : Result Answered DeskError) → UnderLock (λ locked. RefusedAtDesk (refusal_of locked seat) answer) → answer ≡ Err desk.Behind → IsBehind seat
behind_named seat answer under is =
    let locked : LockedView = under.0 in
    let named : RefusedAtDesk (refusal_of locked seat) (Err desk.Behind) = subst (RefusedAtDesk (refusal_of locked seat)) is under.2 in (
      locked,
      under.1,
      λ fits. named_otherwise (nat_le locked.bench.log.limit (length locked.bench.log.records)) (subst (λ why. RefusedAtDesk why (Err desk.Behind)) (cause_of_fitting locked seat fits) named),
    )
