-- Numbers and turns in a history, receipts that show all calls of a caller, and seats that fit.
use Rattle.std.proofs.Common.{◌≡◌, ◌==◌, ℕ, zero, suc, ◌+◌, ◌-◌, ◌<◌, ◌≤◌, ◌⊎◌, ◌↔◌, inl, inr, List, [], ◌∷◌, Bool, true, false, cond, Option, Some, None, refl, ap, sym, ◌∙◌, subst, arith, nat_lt, nat_le, length, take, slice_get}
use Rattle.std.proofs.{Math.Nat.{eq-or-lt_of_le}, Math.Seq.{take-length}, lemmas.Bool.{eqb-true, eq-eqb}, lemmas.Bool.Decides.{nat_tests}}
use Rattle.std.proofs.{lemmas.List.{take-take}, lemmas.List.Elements.{recursion_from_All, Contains-append_right}}
use Rattle.std.proofs.{lemmas.List.Sums.{sum_by-cons, sum_by-take-le}, lemmas.Option.{slice_get_within}}
use Rattle.std.specs.List.{sum_by, AllByRecursion, Contains}
use Rattle.fb_locked.specs.History.BenchView.{Record, BenchView, all_turns, last_number, on_page, record_at, record_numbered, turns_of, AreTurns}
use Rattle.fb_locked.specs.Closing.{IsReceiptRight, AreReceiptsRight, times, receipts_of}
use Rattle.fb_locked.specs.{declared.locked.SharedRefused.{SharedRefused}, declared.locked.SharedRefused.TheVariants.{SeatDiffers, Behind, HistoryFull}}
use Rattle.fb_locked.specs.{Seats.{AreSeatsAt, ReceiptView, LockedView, SeatView, seat_at}, Refusals.{refusal_of}, Resuming.{IsUpToDate}}
use Rattle.fb_locked.proofs.Closings.{placed}

-- ---- numbers and turns

less_unless : (m n : ℕ) → (n ≤ m → ⊥) → m < n
less_unless m n never =
    elim (nat_lt m n) as (λ b. nat_lt m n ≡ b → m < n) [
      | true ↦ λ e. grind (arith, nat_tests)
      | false ↦ λ e. let le : n ≤ m = grind (arith, nat_tests) in absurd (never le)
    ] refl

turns_up : (caller : ℕ) (es : List Record) (m n : ℕ) → m ≤ n → turns_of caller (take m es) ≤ turns_of caller (take n es)
turns_up caller es m n le =
    subst (λ (l : List Record). turns_of caller l ≤ turns_of caller (take n es)) (take-take m n es le) (sum_by-take-le (λ (x : Record). cond (x.caller == caller) 1 0) (take n es) m)

pub numbers_rise : (bench : BenchView) (m n : ℕ) (earlier later : Record) → AreTurns bench → record_numbered bench m ≡ Some earlier → record_numbered bench n ≡ Some later → earlier.caller ≡ later.caller → earlier.turn < later.turn → m < n
numbers_rise bench m n earlier later turns at_m at_n same rising =
    let es = bench.log.records in
    let before : ℕ = bench.origin.before in
    let page : ℕ = on_page bench.origin.pages earlier.caller in
    let first : earlier.turn ≡ page + turns_of earlier.caller (take (m - before) es) = turns (m - before) earlier at_m in
    let second : later.turn ≡ page + turns_of earlier.caller (take (n - before) es) = turns (n - before) later at_n ∙ ap (λ q. on_page bench.origin.pages q + turns_of q (take (n - before) es)) (sym same) in
    less_unless m n (λ le. let up = turns_up earlier.caller es (n - before) (m - before) (omega (arith, le)) in omega (arith, first, second, up, rising))

-- ---- receipts and records up to a number

abbrev is_own : ℕ → Option Record → Bool
is_own caller None = false
is_own caller (Some it) = it.caller == caller

turns_next : (caller : ℕ) (es : List Record) (n : ℕ) → turns_of caller (take (suc n) es) ≡ turns_of caller (take n es) + cond (is_own caller (slice_get es n)) 1 0
turns_next caller [] zero = refl
turns_next caller [] (suc n) = refl
turns_next caller (e ∷ es) zero = refl
turns_next caller (e ∷ es) (suc n) =
    let f : Record → ℕ = λ x. cond (x.caller == caller) 1 0 in
    let long : turns_of caller (e ∷ take (suc n) es) ≡ f e + turns_of caller (take (suc n) es) = sum_by-cons f e (take (suc n) es) in
    let short : turns_of caller (e ∷ take n es) ≡ f e + turns_of caller (take n es) = sum_by-cons f e (take n es) in
    omega (arith, long, short, turns_next caller es n)

-- the same by number, with none up to the calls before the first record
turns_at : (caller : ℕ) (es : List Record) (n m : ℕ) → (n ≡ suc m) ⊎ ((n ≡ 0) × (m ≡ 0)) → turns_of caller (take n es) ≡ turns_of caller (take m es) + cond (is_own caller (record_at es n)) 1 0
turns_at caller es n m (inl next) = rw next (turns_next caller es m)
turns_at caller es n m (inr (none, none')) = rw (none, none') (omega arith)

next_number : (before bound : ℕ) → (suc bound - before ≡ suc (bound - before)) ⊎ ((suc bound - before ≡ 0) × (bound - before ≡ 0))
next_number before bound =
    elim (nat_le before bound) as (λ b. nat_le before bound ≡ b → (suc bound - before ≡ suc (bound - before)) ⊎ ((suc bound - before ≡ 0) × (bound - before ≡ 0))) [
      | true ↦ λ e. let le : before ≤ bound = grind (arith, nat_tests) in inl (omega arith)
      | false ↦ λ e. let past : bound < before = grind (arith, nat_tests) in inr (omega arith, omega arith)
    ] refl

-- how many records the caller has up to a number
abbrev turns_to : BenchView → ℕ → ℕ → ℕ
turns_to bench caller bound = turns_of caller (take (bound - bench.origin.before) bench.log.records)

turns_numbered : (bench : BenchView) (caller bound : ℕ) → turns_to bench caller (suc bound) ≡ turns_to bench caller bound + cond (is_own caller (record_numbered bench (suc bound))) 1 0
turns_numbered bench caller bound = turns_at caller bench.log.records (suc bound - bench.origin.before) (bound - bench.origin.before) (next_number bench.origin.before bound)

-- a receipt of the caller with a number up to a bound
abbrev up_to : ℕ → ℕ → ReceiptView → ℕ
up_to caller bound c = cond (c.entry.caller == caller) (cond (nat_le c.number bound) 1 0) 0

abbrev at_number : ℕ → ℕ → ReceiptView → ℕ
at_number number weight c = cond (c.number == number) weight 0

one_bits : (own : Bool) (n bound weight : ℕ) (here : Bool) → n == suc bound ≡ here → (here ≡ true → weight ≡ cond own 1 0) → cond own (cond (nat_le n (suc bound)) 1 0) 0 ≤ cond own (cond (nat_le n bound) 1 0) 0 + cond here weight 0
one_bits false n bound weight here is weighs = omega arith
one_bits true n bound weight true is weighs = let w : weight ≡ 1 = weighs refl in grind (arith, nat_tests)
one_bits true n bound weight false is weighs = grind (arith, nat_tests)

one_step : (bench : BenchView) (caller bound : ℕ) (c : ReceiptView) → IsReceiptRight bench c → up_to caller (suc bound) c ≤ up_to caller bound c + at_number (suc bound) (cond (is_own caller (record_numbered bench (suc bound))) 1 0) c
one_step bench caller bound c right =
    one_bits (c.entry.caller == caller) c.number bound (cond (is_own caller (record_numbered bench (suc bound))) 1 0) (c.number == suc bound) refl (
    λ here. let at : record_numbered bench (suc bound) ≡ Some c.entry = ap (record_numbered bench) (sym (eqb-true c.number (suc bound) here)) ∙ right in ap (λ o. cond (is_own caller o) 1 0) at
    )

all_steps : (bench : BenchView) (caller bound : ℕ) (rs : List ReceiptView) → AllByRecursion (IsReceiptRight bench) rs → sum_by (up_to caller (suc bound)) rs ≤ sum_by (up_to caller bound) rs + sum_by (at_number (suc bound) (cond (is_own caller (record_numbered bench (suc bound))) 1 0)) rs
all_steps bench caller bound [] right = omega arith
all_steps bench caller bound (c ∷ cs) right =
    let weight : ℕ = cond (is_own caller (record_numbered bench (suc bound))) 1 0 in
    omega (
      arith,
      sum_by-cons (up_to caller (suc bound)) c cs,
      sum_by-cons (up_to caller bound) c cs,
      sum_by-cons (at_number (suc bound) weight) c cs,
      one_step bench caller bound c right.0,
      all_steps bench caller bound cs right.1,
    )

nothing_at : (number : ℕ) (rs : List ReceiptView) → sum_by (at_number number 0) rs ≡ 0
nothing_at number [] = refl
nothing_at number (c ∷ cs) =
    sum_by-cons (at_number number 0) c cs ∙ (let none : ◌≡◌ {A = ℕ} (at_number number 0 c) 0 = no_weight (c.number == number) in omega (arith, none, nothing_at number cs))
  where
    no_weight : (b : Bool) → ◌≡◌ {A = ℕ} (cond b 0 0) 0
    no_weight true = refl
    no_weight false = refl

weighed : (number : ℕ) (b : Bool) (rs : List ReceiptView) → times number rs ≤ 1 → sum_by (at_number number (cond b 1 0)) rs ≤ cond b 1 0
weighed number true rs few = few
weighed number false rs few = omega (arith, nothing_at number rs)

none_weighed : (number : ℕ) (b : Bool) (rs : List ReceiptView) → times number rs ≡ 0 → sum_by (at_number number (cond b 1 0)) rs ≡ 0
none_weighed number true rs none = none
none_weighed number false rs none = nothing_at number rs

none_first : (bench : BenchView) (caller : ℕ) (rs : List ReceiptView) → AllByRecursion (IsReceiptRight bench) rs → sum_by (up_to caller 0) rs ≡ 0
none_first bench caller [] right = refl
none_first bench caller (c ∷ cs) right =
    let there = placed bench.log.records (c.number - bench.origin.before) c.entry right.0 in
    let some : 1 ≤ c.number = omega (arith, there.0) in
    let here : up_to caller 0 c ≡ 0 = grind (arith, nat_tests) in
    omega (arith, sum_by-cons (up_to caller 0) c cs, here, none_first bench caller cs right.1)

all_at_end : (bench : BenchView) (caller : ℕ) (rs : List ReceiptView) → AllByRecursion (IsReceiptRight bench) rs → sum_by (up_to caller (last_number bench)) rs ≡ receipts_of caller rs
all_at_end bench caller [] right = refl
all_at_end bench caller (c ∷ cs) right =
    let f : ReceiptView → ℕ = λ x. cond (x.entry.caller == caller) 1 0 in
    let there = placed bench.log.records (c.number - bench.origin.before) c.entry right.0 in
    let within : c.number ≤ last_number bench = omega (arith, there.0, there.1) in
    let here : up_to caller (last_number bench) c ≡ f c = let le : nat_le c.number (last_number bench) ≡ true = grind (arith, nat_tests) in ap (λ b. cond (c.entry.caller == caller) (cond b 1 0) 0) le in
    sum_by-cons (up_to caller (last_number bench)) c cs ∙ ((λ i. here i + all_at_end bench caller cs right.1 i) ∙ sym (sum_by-cons f c cs))

module _ (bench : BenchView) (caller : ℕ) (rs : List ReceiptView) (right : AllByRecursion (IsReceiptRight bench) rs) (once : (number : ℕ) → times number rs ≤ 1) where
  -- receipts up to a number are at most as many as records up to it
  fewer : (bound : ℕ) → sum_by (up_to caller bound) rs ≤ turns_to bench caller bound
  fewer zero = omega (arith, none_first bench caller rs right)
  fewer (suc bound) =
      omega (
        arith,
        all_steps bench caller bound rs right,
        weighed (suc bound) (is_own caller (record_numbered bench (suc bound))) rs (once (suc bound)),
        turns_numbered bench caller bound,
        fewer bound,
      )

  -- and fewer, once one is missing
  missing_at : (n bound : ℕ) → is_own caller (record_numbered bench n) ≡ true → times n rs ≡ 0 → n ≡ suc bound → sum_by (up_to caller (suc bound)) rs + 1 ≤ turns_to bench caller (suc bound)
  missing_at n bound own none is =
      let here : is_own caller (record_numbered bench (suc bound)) ≡ true = subst (λ (k : ℕ). is_own caller (record_numbered bench k) ≡ true) is own in
      let no : times (suc bound) rs ≡ 0 = subst (λ (k : ℕ). times k rs ≡ 0) is none in
      let one : ◌≡◌ {A = ℕ} (cond (is_own caller (record_numbered bench (suc bound))) 1 0) 1 = ap (λ b. cond b 1 0) here in
      omega (
        arith,
        all_steps bench caller bound rs right,
        none_weighed (suc bound) (is_own caller (record_numbered bench (suc bound))) rs no,
        turns_numbered bench caller bound,
        one,
        fewer bound,
      )

  missing : (n : ℕ) → is_own caller (record_numbered bench n) ≡ true → times n rs ≡ 0 → (bound : ℕ) → n ≤ bound → sum_by (up_to caller bound) rs + 1 ≤ turns_to bench caller bound
  missing n own none zero le =
      let first : n ≡ 0 = omega (arith, le) in
      let here : is_own caller (record_numbered bench 0) ≡ true = subst (λ (k : ℕ). is_own caller (record_numbered bench k) ≡ true) first own in
      let place : 0 - bench.origin.before ≡ 0 = omega arith in
      let bad : false ≡ true = subst (λ (k : ℕ). is_own caller (record_at bench.log.records k) ≡ true) place here in
      absurd (let no : ⊥ = cc in no)
  missing n own none (suc bound) le =
      elim (eq-or-lt_of_le le) as (λ _. sum_by (up_to caller (suc bound)) rs + 1 ≤ turns_to bench caller (suc bound)) [
        | inl is ↦ missing_at n bound own none is
        | inr lt ↦
            omega (
              arith,
              all_steps bench caller bound rs right,
              weighed (suc bound) (is_own caller (record_numbered bench (suc bound))) rs (once (suc bound)),
              turns_numbered bench caller bound,
              missing n own none bound (omega (arith, lt)),
            )
      ]

times_cons : (n : ℕ) (c : ReceiptView) (cs : List ReceiptView) → times n (c ∷ cs) ≡ cond (c.number == n) 1 0 + times n cs
times_cons n c cs = sum_by-cons (λ (x : ReceiptView). cond (x.number == n) 1 0) c cs

found_at : (bench : BenchView) (c : ReceiptView) (cs : List ReceiptView) (n : ℕ) (e : Record) (b : Bool) → c.number == n ≡ b → IsReceiptRight bench c → record_numbered bench n ≡ Some e → (times n (c ∷ cs) ≡ 0 → ⊥) → ((times n cs ≡ 0 → ⊥) → Contains cs (record { number = n; entry = e })) → Contains (c ∷ cs) (record { number = n; entry = e })
found_at bench c cs n e true is right there some rest =
    let at : c.number ≡ n = eqb-true c.number n is in
    let both : Some c.entry ≡ Some e = sym right ∙ (ap (record_numbered bench) at ∙ there) in
    let entries : c.entry ≡ e = cc in
    let same : c ≡ record { number = n; entry = e } = λ i. record { number = at i; entry = entries i } in
    (0, omega arith, same)
found_at bench c cs n e false is right there some rest =
    Contains-append_right (c ∷ []) cs (record { number = n; entry = e }) (rest (λ none. some (times_cons n c cs ∙ ((λ i. cond (is i) 1 0 + none i)))))

found : (bench : BenchView) (rs : List ReceiptView) (n : ℕ) (e : Record) → AllByRecursion (IsReceiptRight bench) rs → record_numbered bench n ≡ Some e → (times n rs ≡ 0 → ⊥) → Contains rs (record { number = n; entry = e })
found bench [] n e right there some = absurd (some refl)
found bench (c ∷ cs) n e right there some = found_at bench c cs n e (c.number == n) refl right.0 there some (found bench cs n e right.1 there)

-- a receipt for each record of the caller
pub all_shown : (bench : BenchView) (receipts : List ReceiptView) (caller number : ℕ) (it : Record) → AreReceiptsRight bench receipts → receipts_of caller receipts ≡ turns_of caller bench.log.records → record_numbered bench number ≡ Some it → it.caller ≡ caller → Contains receipts (record { number = number; entry = it })
all_shown bench receipts caller number it are count there mine =
    let right = recursion_from_All (IsReceiptRight bench) receipts are.right in
    let own : is_own caller (record_numbered bench number) ≡ true = ap (is_own caller) there ∙ eq-eqb it.caller caller mine in
    let within = placed bench.log.records (number - bench.origin.before) it there in
    found bench receipts number it right there (
    λ none.
    let less = missing bench caller receipts right are.once number own none (last_number bench) (omega (arith, within.0, within.1)) in
    let whole : last_number bench - bench.origin.before ≡ length bench.log.records = omega arith in
    let all : turns_to bench caller (last_number bench) ≡ turns_of caller bench.log.records = ap (λ n. turns_of caller (take n bench.log.records)) whole ∙ ap (turns_of caller) (take-length bench.log.records) in
    omega (arith, less, all, all_at_end bench caller receipts right, count)
    )

-- ---- the seats of a workbench that is resumed

-- which cause is first against a call, where the calls and the numbers are these
abbrev cause_at : (turns seat_turns last seen limit len : ℕ) → Option SharedRefused
cause_at turns seat_turns last seen limit len =
    cond (turns == seat_turns) (cond (nat_lt last seen) (Some (Behind seen last)) (cond (nat_le limit len) (Some HistoryFull) None)) (Some (SeatDiffers seat_turns turns))

cause_current : (turns last limit len : ℕ) → cause_at turns turns last last limit len ≡ cond (nat_le limit len) (Some HistoryFull) None
cause_current turns last limit len =
    let same : (turns == turns) ≡ true = grind (arith, nat_tests) in
    let seen : nat_lt last last ≡ false = grind (arith, nat_tests) in
    (λ i. cond (same i) (cond (seen i) (Some (Behind last last)) (cond (nat_le limit len) (Some HistoryFull) None)) (Some (SeatDiffers turns turns)))

full_or_none : (limit len : ℕ) (cause : Option SharedRefused) → cause ≡ cond (nat_le limit len) (Some HistoryFull) None → ((cause ≡ None) ⊎ (cause ≡ Some HistoryFull)) × ((cause ≡ Some HistoryFull) ↔ limit ≤ len)
full_or_none limit len cause is =
    elim (nat_le limit len) as (λ b. nat_le limit len ≡ b → cause ≡ cond b (Some HistoryFull) None → ((cause ≡ None) ⊎ (cause ≡ Some HistoryFull)) × ((cause ≡ Some HistoryFull) ↔ limit ≤ len)) [
      | true ↦ λ e is. let full : limit ≤ len = grind (arith, nat_tests) in (inr is, ((λ _. full), (λ _. is)))
      | false ↦ λ e is. (inl is, ((λ some. absurd (let no : ◌≡◌ {A = Option SharedRefused} None (Some HistoryFull) = sym is ∙ some in let never : ⊥ = cc in never)), (λ full. absurd (let never : ⊥ = grind (arith, nat_tests) in never))))
    ] refl is

-- nothing but a full history is against a call with the seat of a caller as the history leaves it
pub up_to_date : (locked : LockedView) (n : ℕ) (seats : List SeatView) (k : ℕ) (seat : SeatView) → AreSeatsAt locked.bench n seats → slice_get seats k ≡ Some seat → IsUpToDate locked seat
up_to_date locked n seats k seat are at =
    let below : k < n = omega (arith, are.0, slice_get_within seats k seat at) in
    let here : Some seat ≡ Some (seat_at locked.bench (k + 1)) = sym at ∙ are.1 k below in
    let is : seat ≡ seat_at locked.bench (k + 1) = cc in
    let limit : ℕ = locked.bench.log.limit in
    let len : ℕ = length locked.bench.log.records in
    subst (IsUpToDate locked) (sym is)
    (full_or_none limit len (refusal_of locked (seat_at locked.bench (k + 1))) (cause_current (all_turns locked.bench (k + 1)) (last_number locked.bench) limit len))
