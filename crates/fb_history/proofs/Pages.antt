-- The pages of the callers after some calls.
use Rattle.std.proofs.Common.{◌≡◌, ◌==◌, ℕ, ◌+◌, ◌≤◌, List, [], ◌∷◌, ◌++◌, Bool, true, false, cond, Some, unwrap_or, refl, ap, ◌∙◌, arith, length}
use Rattle.std.proofs.{lemmas.Bool.Decides.{nat_tests}, lemmas.List.Sums.{sum_by-cons}}
use Rattle.std.specs.{BTreeMap.{insert_entry, is_at}, List.{AllZip}, Map.{lookup}, Ordering.{nat_cmp, match_ordering}}
use Rattle.std.specs.declared.cmp.Ordering.TheVariants.{Less, Equal, Greater}
use Rattle.fb_history.specs.BenchView.{Record, on_page, page_more, pages_after, turns_of}

found_after : (pages : List (ℕ × ℕ)) (k v q : ℕ) → lookup (is_at (nat_cmp q)) (insert_entry nat_cmp pages k v) ≡ cond (k == q) (Some v) (lookup (is_at (nat_cmp q)) pages)
found_after [] k v q = grind (arith, nat_tests)
found_after (e ∷ es) k v q =
    elim (nat_cmp k e.0) as (λ o. nat_cmp k e.0 ≡ o → lookup (is_at (nat_cmp q)) (match_ordering o ((k, v) ∷ e ∷ es) ((e.0, v) ∷ es) (e ∷ insert_entry nat_cmp es k v)) ≡ cond (k == q) (Some v) (lookup (is_at (nat_cmp q)) (e ∷ es))) [
      | Less ↦ λ o. grind (arith, nat_tests)
      | Equal ↦ λ o. grind (arith, nat_tests)
      | Greater ↦ λ o. let rest = found_after es k v q in grind (arith, nat_tests)
    ] refl

-- one call more on the page of its caller
on_more : (pages : List (ℕ × ℕ)) (caller q : ℕ) → on_page (page_more pages caller) q ≡ on_page pages q + cond (caller == q) 1 0
on_more pages caller q = ap (λ o. unwrap_or o 0) (found_after pages caller (on_page pages caller + 1) q) ∙ by (caller == q) refl
  where
    by : (b : Bool) → (caller == q) ≡ b → unwrap_or (cond b (Some (on_page pages caller + 1)) (lookup (is_at (nat_cmp q)) pages)) 0 ≡ on_page pages q + cond b 1 0
    by true same = let is : caller ≡ q = grind (arith, nat_tests) in ap (λ n. on_page pages n + 1) is
    by false same = omega arith

-- the pages after these calls have what they had and these
pub on_all : (pages : List (ℕ × ℕ)) (records : List Record) (q : ℕ) → on_page (pages_after pages records) q ≡ on_page pages q + turns_of q records
on_all pages [] q = omega arith
on_all pages (it ∷ records) q =
    let rest = on_all (page_more pages it.caller) records q in
    let one = on_more pages it.caller q in
    let sum = sum_by-cons (λ (x : Record). cond (x.caller == q) 1 0) it records in
    omega (arith, rest, one, sum)

-- one call more at the end
pub pages_pushed : (pages : List (ℕ × ℕ)) (records : List Record) (it : Record) → pages_after pages (records ++ it ∷ []) ≡ page_more (pages_after pages records) it.caller
pages_pushed pages [] it = refl
pages_pushed pages (first ∷ records) it = pages_pushed (page_more pages first.caller) records it

few_of : (q : ℕ) (records : List Record) → turns_of q records ≤ length records
few_of q [] = omega arith
few_of q (it ∷ records) =
    let sum = sum_by-cons (λ (x : Record). cond (x.caller == q) 1 0) it records in
    let one : cond (it.caller == q) 1 0 ≤ 1 = grind (arith, nat_tests) in
    omega (arith, few_of q records, sum, one)

-- no caller has more than all calls
pub within_all : (pages : List (ℕ × ℕ)) (before : ℕ) (records : List Record) (q : ℕ) → on_page pages q ≤ before → on_page (pages_after pages records) q ≤ before + length records
within_all pages before records q fits = omega (arith, on_all pages records q, few_of q records, fits)

-- a clone of the pages has the same
pub copied : (xs ys : List (ℕ × ℕ)) → AllZip (λ p q. (q.0 ≡ p.0) × (q.1 ≡ p.1)) xs ys → ys ≡ xs
copied [] [] z = refl
copied [] (y ∷ ys) z = absurd z
copied (x ∷ xs) [] z = absurd z
copied (x ∷ xs) (y ∷ ys) z = let rest = copied xs ys z.1 in λ i. (z.0.0 i, z.0.1 i) ∷ rest i
