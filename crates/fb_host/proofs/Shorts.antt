-- Whose receipts are not all there.
use Rattle.std.proofs.Common.{◌≡◌, ◌==◌, ◌&&◌, ◌||◌, ◌≤◌, ◌<◌, ℕ, ◌+◌, List, [], ◌∷◌, ◌++◌, Bool, true, false, Option, Some, None, is_some, map, refl, ap, sym, ◌∙◌, arith, nat_lt}
use Rattle.std.proofs.{lemmas.Bool.{eqb-true}, lemmas.Bool.Decides.{nat_tests}, lemmas.List.{map-append}, lemmas.List.Folds.{list_any-append}}
use Rattle.std.specs.{Borrow.{Bor}, List.{list_any}, Map.{keys_of}, Map.Iter.{deref}}
use Rattle.fb_locked.specs.{Book.{has_called}, Closing.{AgreesWith, IsLeast, receipts_of}}
use Rattle.fb_locked.specs.{History.BenchView.{BenchView, all_turns, pages_after, turns_of}, Seats.{SeatView, ReceiptView}}
use Rattle.fb_locked.proofs.EachCaller.{called_all}
use Rattle.fb_serve.specs.Shown.{ShowsAll}
use Rattle.fb_host.specs.Short.{is_short}

-- one of those that were seen, and short
abbrev pub short_seen : List ℕ → BenchView → List ReceiptView → ℕ → Bool
short_seen seen bench receipts q = list_any (λ n. n == q) seen && is_short bench receipts q

or_false : (b : Bool) → (b || false) ≡ b
or_false true = refl
or_false false = refl

seen_more : (seen : List (Bor ℕ)) (k : Bor ℕ) (q : ℕ) → list_any (λ (n : ℕ). n == q) (map deref (seen ++ k ∷ [])) ≡ (list_any (λ (n : ℕ). n == q) (map deref seen) || k.now == q)
seen_more seen k q =
    let is_it : ℕ → Bool = λ n. n == q in
    ap (list_any is_it) (map-append deref seen (k ∷ []))
    ∙ (list_any-append is_it (map deref seen) (k.now ∷ []) ∙ ap (λ b. list_any is_it (map deref seen) || b) (or_false (k.now == q)))

either_short : (m b s s' : Bool) → (b ≡ true → s ≡ s') → ((m || b) && s) ≡ ((m && s) || (b && s'))
either_short true true true s' same = refl
either_short true true false s' same = same refl
either_short true false true s' same = refl
either_short true false false s' same = refl
either_short false true s s' same = same refl
either_short false false s s' same = refl

pub short_more : (bench : BenchView) (receipts : List ReceiptView) (seen : List (Bor ℕ)) (k : Bor ℕ) (q : ℕ)
    → short_seen (map deref (seen ++ k ∷ [])) bench receipts q ≡ (short_seen (map deref seen) bench receipts q || (k.now == q && is_short bench receipts k.now))
short_more bench receipts seen k q =
    ap (λ b. b && is_short bench receipts q) (seen_more seen k q)
    ∙ either_short (list_any (λ (n : ℕ). n == q) (map deref seen)) (k.now == q) (is_short bench receipts q) (is_short bench receipts k.now) (λ same. ap (is_short bench receipts) (sym (eqb-true k.now q same)))

seen_short : (m s c : Bool) → (m && c) ≡ c → (s ≡ true → c ≡ true) → s ≡ (m && s)
seen_short true s c called few = refl
seen_short false true c called few = sym (called ∙ few refl)
seen_short false false c called few = refl

-- who is short has made a call, and is among the pages of all calls
pub short_all : (bench : BenchView) (receipts : List ReceiptView) (seen : List ℕ) (q : ℕ) → seen ≡ keys_of (pages_after bench.origin.pages bench.log.records) → is_short bench receipts q ≡ short_seen seen bench receipts q
short_all bench receipts seen q is =
    let called : has_called seen bench q ≡ nat_lt 0 (all_turns bench q) = called_all bench seen q is in
    seen_short (list_any (λ (n : ℕ). n == q) seen) (is_short bench receipts q) (nat_lt 0 (all_turns bench q)) called (
    λ short.
    let some : receipts_of q receipts < turns_of q bench.log.records = grind (arith, nat_tests) in
    let more : 0 < all_turns bench q = omega (arith, some) in
    grind (arith, nat_tests)
    )

pub nobody : (test : ℕ → Bool) (least : Option ℕ) → is_some least ≡ false → IsLeast test least → IsLeast test None
nobody test None is least = least
nobody test (Some q) is least = absurd (let never : ⊥ = cc in never)

enough : (few most : ℕ) → nat_lt few most ≡ false → most ≤ few
enough few most none = grind (arith, nat_tests)

-- where nobody is short, the receipts show all records
pub all_there : (callers : ℕ) (bench : BenchView) (seats : List SeatView) (receipts : List ReceiptView) → AgreesWith callers bench seats receipts → IsLeast (is_short bench receipts) None → ShowsAll bench receipts
all_there callers bench seats receipts agrees none = (agrees.shown, λ q. enough (receipts_of q receipts) (turns_of q bench.log.records) (none q))
