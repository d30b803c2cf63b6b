-- Calls of a worker, one list after another.
use Rattle.std.proofs.Common.{◌≡◌, ℕ, ◌+◌, ◌*◌, ◌≤◌, inr, List, [], ◌∷◌, ◌++◌, Option, Some, None, Result, Ok, Err, option_map, sym, ap, ◌∙◌, subst, arith, append_assoc, append-nil, length-append, refl}
use Rattle.fb_bench.specs.{Jobs.Reads.{PlainJob}, History.Machine.{Call, ToGiveBack}, declared.answers.Answered.{Answered}}
use Rattle.fb_locked.specs.{declared.locked.SharedRefused.{SharedRefused}, declared.look.WorkEnd.{WorkEnd}, declared.look.WorkEnd.TheVariants.{Memory}}
use Rattle.fb_locked.specs.{Seats.{LockedView, SeatView, ReceiptView, IsReceiptOf, seat_after}, Refusals.{IsRefusalOf, RefusedAs}, Calls.{AnswersInto, Stays}}
use Rattle.fb_locked.specs.Ends.{NamesSeat, EndsAs, GivesUp, end_of}
use Rattle.fb_locked.specs.Runs.{Hand, Empty, Holds, Gave, hand_after, IsRun, IsWork, Follows, AddsWork, Works, IsRefusal}
use Rattle.fb_locked.specs.declared.locked.SharedRefused.TheVariants as refused

run_append : (seat : SeatView) (xs ys : List ReceiptView) (middle after : SeatView) → IsRun seat xs middle → IsRun middle ys after → IsRun seat (xs ++ ys) after
run_append seat [] ys middle after one two = subst (λ (s : SeatView). IsRun s ys after) one two
run_append seat (x ∷ xs) ys middle after one two = (one.0, run_append (seat_after seat x) xs ys middle after one.1 two)

work_append : (hand middle now : Hand) (xs ys : List ReceiptView) → IsWork hand xs middle → IsWork middle ys now → IsWork hand (xs ++ ys) now
work_append hand middle now [] ys one two = subst (λ (h : Hand). IsWork h ys now) one two
work_append hand middle now (x ∷ xs) ys one two = (one.0, work_append (hand_after x.entry.call x.entry.reply) middle now xs ys one.1 two)

-- no receipt
pub adds_nothing : (hand : Hand) (most : ℕ) (seat after : SeatView) (old new : List ReceiptView) → new ≡ old → after ≡ seat → AddsWork hand most seat old new after hand
adds_nothing hand most seat after old new same stays = record { added = []; behind = same ∙ sym (append-nil old); run = stays; work = refl; few = omega arith }

pub adds_none : (hand : Hand) (most : ℕ) (seat : SeatView) (old : List ReceiptView) → AddsWork hand most seat old old seat hand
adds_none hand most seat old = adds_nothing hand most seat seat old old refl refl

-- one receipt
pub adds_call : (hand : Hand) (seat after : SeatView) (old new : List ReceiptView) (call : Call) (receipt : ReceiptView) → IsReceiptOf seat call receipt → Follows hand call → new ≡ old ++ receipt ∷ [] → after ≡ seat_after seat receipt → AddsWork hand 1 seat old new after (hand_after call receipt.entry.reply)
adds_call hand seat after old new call receipt fits follows pushed moved =
    subst (λ (c : Call). IsReceiptOf seat c receipt → Follows hand c → AddsWork hand 1 seat old new after (hand_after c receipt.entry.reply)) fits.call_is
    (λ is goes. record { added = receipt ∷ []; behind = pushed; run = (is, moved); work = (goes, refl); few = omega arith })
    fits follows

-- receipts, and then others
pub adds_both : (hand between_hand now : Hand) (most more : ℕ) (seat middle after : SeatView) (old between new : List ReceiptView) → AddsWork hand most seat old between middle between_hand → AddsWork between_hand more middle between new after now → AddsWork hand (most + more) seat old new after now
adds_both hand between_hand now most more seat middle after old between new one two = record {
  added = one.added ++ two.added;
  behind = two.behind ∙ (ap (λ l. l ++ two.added) one.behind ∙ append_assoc old one.added two.added);
  run = run_append seat one.added two.added middle after one.run two.run;
  work = work_append hand between_hand now one.added two.added one.work two.work;
  few = rw length-append (omega (arith, one.few, two.few));
}

pub adds_fewer : (hand : Hand) (few most : ℕ) (seat after : SeatView) (old new : List ReceiptView) (now : Hand) → few ≤ most → AddsWork hand few seat old new after now → AddsWork hand most seat old new after now
adds_fewer hand few most seat after old new now less adds = record { added = adds.added; behind = adds.behind; run = adds.run; work = adds.work; few = omega (arith, adds.few) }

-- the same, where the turns are counted
pub adds_turn : (turns : ℕ) (now : Hand) (seat middle after : SeatView) (old between new : List ReceiptView) → AddsWork Empty (2 * turns) seat old between middle Empty → AddsWork Empty 2 middle between new after now → AddsWork Empty (2 * (turns + 1)) seat old new after now
adds_turn turns now seat middle after old between new one two =
    let all = adds_both Empty Empty now (2 * turns) 2 seat middle after old between new one two in
    subst (λ (n : ℕ). AddsWork Empty n seat old new after now) (omega arith) all

-- a turn after which the worker goes on
pub adds_whole_turn : (turns : ℕ) (seat middle after : SeatView) (old between new : List ReceiptView) → AddsWork Empty (2 * turns) seat old between middle Empty → Works Empty 2 middle between new after None → AddsWork Empty (2 * (turns + 1)) seat old new after Empty
adds_whole_turn turns seat middle after old between new one two =
    subst (λ (h : Hand). AddsWork Empty (2 * (turns + 1)) seat old new after h) two.2 (adds_turn turns two.0 seat middle after old between new one two.1)

-- calls, and then those up to an end
pub works_after : (hand between_hand : Hand) (most more : ℕ) (seat middle after : SeatView) (old between new : List ReceiptView) (end : Option WorkEnd) → AddsWork hand most seat old between middle between_hand → Works between_hand more middle between new after end → Works hand (most + more) seat old new after end
works_after hand between_hand most more seat middle after old between new end one two =
    (two.0, adds_both hand between_hand two.0 most more seat middle after old between new one two.1, two.2)

-- each refusal is one
pub refusal_ends : (cause : SharedRefused) → IsRefusal (end_of cause)
refusal_ends (refused.SeatDiffers turns book) = tt
refusal_ends (refused.Behind seen len) = tt
refusal_ends refused.HistoryFull = tt
refusal_ends refused.Memory = tt

-- a refusal names the seat as the end does
pub refusal_names : (seat : SeatView) (cause : SharedRefused) → IsRefusalOf seat cause → NamesSeat seat (end_of cause)
refusal_names seat (refused.SeatDiffers turns book) named = named
refusal_names seat (refused.Behind seen len) named = named
refusal_names seat refused.HistoryFull named = tt
refusal_names seat refused.Memory named = tt

-- ---- how a job is settled

-- its key is given back, if it can be
pub gives_up : (job : PlainJob) (seat after : SeatView) (old new : List ReceiptView) (answer : Result Answered SharedRefused) → AnswersInto seat (ToGiveBack job.key) answer old after new → Works (Holds job) 1 seat old new after (Some Memory)
gives_up job seat after old new (Ok answer) kept = (Gave, adds_call (Holds job) seat after old new (ToGiveBack job.key) kept.0 kept.2 refl kept.1 kept.4, refl)
gives_up job seat after old new (Err cause) kept = (Holds job, adds_nothing (Holds job) 1 seat after old new kept.1 kept.2, tt)

-- its delivery is refused
pub ends_refused : (job : PlainJob) (seat after : SeatView) (old new : List ReceiptView) (call : Call) (cause : SharedRefused) → AnswersInto seat call (Err cause) old after new → Works (Holds job) 1 seat old new after (Some (end_of cause))
ends_refused job seat after old new call cause kept = (Holds job, adds_nothing (Holds job) 1 seat after old new kept.1 kept.2, refusal_ends cause)

pub refused_names : (seat after : SeatView) (old new : List ReceiptView) (call : Call) (cause : SharedRefused) → AnswersInto seat call (Err cause) old after new → NamesSeat after (end_of cause)
refused_names seat after old new call cause kept = subst (λ (s : SeatView). NamesSeat s (end_of cause)) (sym kept.2) (refusal_names seat cause kept.0)

-- a refusal ends a worker under its name
pub ends_as : (first : Option SharedRefused) (cause : SharedRefused) → RefusedAs first cause → EndsAs (option_map end_of first) (end_of cause)
ends_as None cause is = ap end_of is
ends_as (Some other) cause is = ap end_of is

pub stays_gives : (cause : SharedRefused) (locked locked' : LockedView) (seat seat' : SeatView) (job : PlainJob) (old new : List ReceiptView) → Stays locked seat old locked' seat' new → GivesUp (end_of cause) locked seat job old locked' seat' new
stays_gives (refused.SeatDiffers turns book) locked locked' seat seat' job old new stays = stays
stays_gives (refused.Behind seen len) locked locked' seat seat' job old new stays = stays
stays_gives refused.HistoryFull locked locked' seat seat' job old new stays = stays
stays_gives refused.Memory locked locked' seat seat' job old new stays = inr stays
