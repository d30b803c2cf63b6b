-- A search among items that stand by rising name.
use Rattle.std.proofs.Common.{◌≡◌, ℕ, ◌<◌, ◌≤◌, List, [], ◌∷◌, length, map, get_or, inl, inr, sym, ap, ◌∙◌, arith, Result, Ok, Err, IfOk, IfErr}
use Rattle.std.proofs.{lemmas.Bool.{cases_lt}, lemmas.List.{get_or-map, length-map}, lemmas.Map.Keys.{Less-from_sorted}}
use Rattle.std.specs.{List.Sorted.{IsStrictlySortedBy, IsNonDecreasingBy, IsSearchInRange, IsBinarySearchResult}, Ordering.{ordering_index}}
use Rattle.std.specs.declared.cmp.Ordering.TheVariants.{Less}
use Rattle.fb_parse.specs.Text.Order.{name_cmp}
use Rattle.fb_library.specs.Place.{IsAt, IsGapFor}
use Rattle.fb_library.proofs.{Names.{name_total, exact_name, by_order}, Places.{greater, less}}

-- the comparisons with a name rise along names in order
index_rises : (x y n : List ℕ) → name_cmp x y ≡ Less → ordering_index (name_cmp x n) ≤ ordering_index (name_cmp y n)
index_rises x y n lt =
    by_order (name_cmp x n)
    (λ l. rw l (omega arith))
    (λ e. rw (e, ← exact_name x n e, greater x y lt) (omega arith))
    (λ g. rw (g, greater n y (name_total.trans n x y (less x n g) lt)) (omega arith))

pub record Searched (names : List (List ℕ)) (n : List ℕ) (r : Result ℕ ℕ) : Type 0 where
  pub found : IfOk r (IsAt names n)
  pub absent : IfErr r (IsGapFor names n)

module _ {A : Type 0} (name : A → List ℕ) where
  there : (xs : List A) (i : ℕ) (d : A) → i < length xs → get_or (map name xs) i [] ≡ name (get_or xs i d)
  there xs i d lt = get_or-map name xs i d [] lt

  rises : (xs : List A) (n : List ℕ) → IsStrictlySortedBy name_cmp (map name xs) → IsNonDecreasingBy (λ x. ordering_index (name_cmp (name x) n)) xs
  rises xs n sorted i j d le lt = elim (cases_lt i j) [
    | inl before ↦
        let first = there xs i d (omega (arith, before, lt)) in
        let second = there xs j d lt in
        let below = Less-from_sorted name_cmp (map name xs) i j [] sorted before (omega (arith, lt, length-map xs name)) in
        index_rises (name (get_or xs i d)) (name (get_or xs j d)) n (sym (λ k. name_cmp (first k) (second k)) ∙ below)
    | inr behind ↦
        let same : i ≡ j = omega arith in
        rw same (omega arith)
  ]

  -- a search ends at the item of that name, or where it would go
  pub searched : (xs : List A) (n : List ℕ) (r : Result ℕ ℕ) → IsStrictlySortedBy name_cmp (map name xs) → IsSearchInRange r (length xs) → IsBinarySearchResult (λ x. name_cmp (name x) n) xs r → Searched (map name xs) n r
  searched [] n (Ok at) sorted within is = absurd (omega (arith, within))
  searched (x ∷ xs) n (Ok at) sorted within is = record {
    found = record {
      in_range = omega (arith, within, length-map (x ∷ xs) name);
      named = there (x ∷ xs) at x within ∙ exact_name _ n (is x);
    };
    absent = tt;
  }
  searched [] n (Err at) sorted within is = record {
    found = tt;
    absent = record { in_range = within; below = λ j lt. absurd (omega (arith, within)); above = λ j le lt. absurd (omega arith) };
  }
  searched (x ∷ xs) n (Err at) sorted within is = record {
    found = tt;
    absent = record {
      in_range = omega (arith, within, length-map (x ∷ xs) name);
      below = λ j lt. ap (λ m. name_cmp m n) (there (x ∷ xs) j x (omega (arith, within, lt))) ∙ (is (rises (x ∷ xs) n sorted)).0 j x (omega arith) lt;
      above = λ j le lt.
          let here : j < length (x ∷ xs) = omega (arith, lt, length-map (x ∷ xs) name) in
          ap (name_cmp n) (there (x ∷ xs) j x here) ∙ less _ n ((is (rises (x ∷ xs) n sorted)).1 j x le here);
    };
  }
