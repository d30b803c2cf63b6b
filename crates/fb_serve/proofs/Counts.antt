-- How many receipts there are of a caller.
use Rattle.std.proofs.Common.{◌≡◌, ◌≤◌, ◌==◌, ◌&&◌, ◌||◌, ℕ, ◌+◌, [], ◌∷◌, ◌++◌, ◌∙◌, Bool, List, ap, arith, cond, false, nat_le, nat_lt, not, refl, subst, sym, true}
use Rattle.std.proofs.lemmas.List.Sums.{sum_by-append, sum_by-cons}
use Rattle.std.proofs.{lemmas.Bool.{eq-eqb, eqb-true}, lemmas.Bool.Decides.{nat_tests}, lemmas.List.Elements.{All-push, All-weaker, recursion_from_All}}
use Rattle.std.specs.List.{AllByRecursion, list_any}
use Rattle.fb_wire.specs.History.BenchView.{BenchView, all_turns}
use Rattle.fb_shared.specs.{Locked.Book.{is_caller}, Locked.Closing.{AgreesWith, has_seat, receipts_of}, Locked.Runs.{IsRun}}
use Rattle.fb_shared.specs.Locked.Seats.{ReceiptView, SeatView, seat_after}
use Rattle.fb_serve.specs.{AddedReceipts.{AddsRun}, Shown.{AreShown, IsNew, IsShown, ShowsAll}}

-- 1 for a receipt of this caller
abbrev own : ℕ → ReceiptView → ℕ
own caller c = cond (c.entry.caller == caller) 1 0

receipts_cons : (caller : ℕ) (c : ReceiptView) (cs : List ReceiptView) → receipts_of caller (c ∷ cs) ≡ own caller c + receipts_of caller cs
receipts_cons caller c cs = sum_by-cons (own caller) c cs

receipts_append : (caller : ℕ) (xs ys : List ReceiptView) → receipts_of caller (xs ++ ys) ≡ receipts_of caller xs + receipts_of caller ys
receipts_append caller xs ys = sum_by-append (own caller) xs ys

-- ---- calls with one seat

run_counts : (seat : SeatView) (receipts : List ReceiptView) (after : SeatView) → IsRun seat receipts after → (after.caller ≡ seat.caller) × (after.turns ≡ seat.turns + receipts_of seat.caller receipts)
run_counts seat [] after run =
    let none : receipts_of seat.caller [] ≡ 0 = refl in
    let same : after.turns ≡ seat.turns = ap (λ (s : SeatView). s.turns) run in
    (ap (λ (s : SeatView). s.caller) run, omega (arith, same, none))
run_counts seat (c ∷ cs) after run =
    let rest = run_counts (seat_after seat c) cs after run.1 in
    let here : own seat.caller c ≡ 1 = ap (λ b. cond b 1 0) (eq-eqb c.entry.caller seat.caller run.0.caller_is) in
    (rest.0, omega (arith, rest.1, run.0.turn_is, receipts_cons seat.caller c cs, here))

-- all calls with a new seat
pub run_shown : (seat : SeatView) (receipts : List ReceiptView) (after : SeatView) → IsNew seat → IsRun seat receipts after → IsShown receipts after
run_shown seat receipts after new run =
    let counts = run_counts seat receipts after run in
    let same : receipts_of after.caller receipts ≡ receipts_of seat.caller receipts = ap (λ q. receipts_of q receipts) counts.0 in
    omega (arith, new, counts.1, same)

pub adds_shown : (seat after : SeatView) (old receipts : List ReceiptView) → IsNew seat → old ≡ [] → AddsRun seat old after receipts → IsShown receipts after
adds_shown seat after old receipts new none adds =
    run_shown seat receipts after new (subst (λ (l : List ReceiptView). IsRun seat l after) (sym (adds.1 ∙ ap (λ (l : List ReceiptView). l ++ adds.0) none)) adds.2)

-- ---- all seats

pub more_shown : (old more : List ReceiptView) (seats : List SeatView) → AreShown old seats → AreShown (old ++ more) seats
more_shown old more seats shown = All-weaker (IsShown old) (IsShown (old ++ more)) (λ seat s. omega (arith, s, receipts_append seat.caller old more)) seats shown

pub shown_with : (old more : List ReceiptView) (seats : List SeatView) (seat : SeatView) → AreShown old seats → IsShown more seat → AreShown (old ++ more) (seats ++ seat ∷ [])
shown_with old more seats seat shown last =
    All-push (IsShown (old ++ more)) seats seat (more_shown old more seats shown) (omega (arith, last, receipts_append seat.caller old more))

-- ---- a close

right_turns : (t turns : ℕ) (rest : Bool) → not (t == turns) || rest ≡ false → t ≡ turns
right_turns t turns rest is =
    elim (t == turns) as (λ b. t == turns ≡ b → not b || rest ≡ false → t ≡ turns) [
      | true ↦ λ e h. eqb-true t turns e
      | false ↦ λ e h. let bad : true ≡ false = h in cc
    ] refl is

or_true : (a b : Bool) → b ≡ true → a || b ≡ true
or_true true b is = refl
or_true false b is = is

-- the seats have the calls of a caller, and the receipts show them
caller_shown : (t q : ℕ) (rs : List ReceiptView) (seats : List SeatView) → list_any (λ s. s.caller == q) seats ≡ true → list_any (λ s. s.caller == q && not (t == s.turns)) seats ≡ false → AllByRecursion (IsShown rs) seats → t ≤ receipts_of q rs
caller_shown t q rs [] any none shown = let bad : false ≡ true = any in cc
caller_shown t q rs (s ∷ ss) any none shown =
    elim (s.caller == q) as (λ b. s.caller == q ≡ b → b || list_any (λ x. x.caller == q) ss ≡ true → (b && not (t == s.turns)) || list_any (λ x. x.caller == q && not (t == x.turns)) ss ≡ false → t ≤ receipts_of q rs) [
      | true ↦ λ e a n.
          let same : receipts_of s.caller rs ≡ receipts_of q rs = ap (λ k. receipts_of k rs) (eqb-true s.caller q e) in
          let turns : t ≡ s.turns = right_turns t s.turns _ n in
          omega (arith, shown.0, same, turns)
      | false ↦ λ e a n. caller_shown t q rs ss a n shown.1
    ] refl any none

none_fewer : (t k : ℕ) → nat_lt 0 t ≡ false → t ≤ k
none_fewer t k none = grind (arith, nat_tests)

seated : (is has : Bool) → is && not has ≡ false → is ≡ true → has ≡ true
seated is true none caller = refl
seated true false none caller = let bad : true ≡ false = none in cc
seated false false none caller = cc

-- a caller's records are among its calls of all time, which the receipts show
pub all_shown : (callers : ℕ) (bench : BenchView) (seats : List SeatView) (receipts : List ReceiptView) → AgreesWith callers bench seats receipts → AreShown receipts seats → ShowsAll bench receipts
all_shown callers bench seats receipts agrees shown = (
  agrees.shown,
  λ q.
      let all = by_calls q (nat_lt 0 (all_turns bench q)) refl in
      omega (arith, all),
)
  where
    by_calls : (q : ℕ) (b : Bool) → nat_lt 0 (all_turns bench q) ≡ b → all_turns bench q ≤ receipts_of q receipts
    by_calls q false is = none_fewer (all_turns bench q) (receipts_of q receipts) is
    by_calls q true is =
        let caller : is_caller callers bench q ≡ true = or_true (nat_lt 0 q && nat_le q callers) _ is in
        caller_shown (all_turns bench q) q receipts seats (seated (is_caller callers bench q) (has_seat seats q) (agrees.seated q) caller) (agrees.turns q) (recursion_from_All (IsShown receipts) seats shown)
