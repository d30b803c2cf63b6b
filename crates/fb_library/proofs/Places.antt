-- What a search finds among names in order, and what an edit at that place does.
use Rattle.std.proofs.Common.{◌≡◌, ℕ, zero, suc, ◌-◌, Bool, List, [], ◌∷◌, get_or, set, refl, sym, ap, subst, ◌∙◌, arith, Some, None}
use Rattle.std.proofs.{lemmas.Cmp.{tied_itself}, lemmas.Map.Keys.{Less-from_sorted, sorted_tail}, lemmas.Option.{none-some}}
use Rattle.std.proofs.{lemmas.List.Elements.{All-from_recursion, recursion_from_All}, lemmas.Map.Views.{All-map-remove_entry}}
use Rattle.std.specs.{List.{insert, remove, AllByRecursion}, List.Sorted.{IsStrictlySortedBy}, Map.{lookup, remove_entry}, BTreeMap.{is_at, insert_entry}}
use Rattle.std.specs.{Ordering.{ordering_reverse}, declared.cmp.Ordering.TheVariants.{Less, Equal, Greater}, BTreeSet.{insert_key}}
use Rattle.fb_parse.specs.Text.Order.{name_cmp, in_order}
use Rattle.fb_parse.proofs.{Text.OrderLemmas.{in_order-sorted}, Text.Tests.{by_bool}}
use Rattle.fb_library.specs.{Place.{IsAt, IsGapFor}, Shelves.{names_of as keys}}
use Rattle.fb_library.proofs.Names.{name_total, by_order}

pub greater : (x y : List ℕ) → name_cmp x y ≡ Less → name_cmp y x ≡ Greater
greater x y e = name_total.antisymm y x ∙ ap ordering_reverse e

pub less : (x y : List ℕ) → name_cmp x y ≡ Greater → name_cmp y x ≡ Less
less x y e = name_total.antisymm y x ∙ ap ordering_reverse e

at_tail : (x : List ℕ) (xs : List (List ℕ)) (n : List ℕ) (i : ℕ) → IsAt (x ∷ xs) n (suc i) → IsAt xs n i
at_tail x xs n i is = record { in_range = omega (arith, is.in_range); named = is.named }

gap_tail : (x : List ℕ) (xs : List (List ℕ)) (n : List ℕ) (i j : ℕ) → j ≡ i - 1 → IsGapFor (x ∷ xs) n i → IsGapFor xs n j
gap_tail x xs n i j is gap = record {
  in_range = omega (arith, gap.in_range);
  below = λ k lt. gap.below (suc k) (omega arith);
  above = λ k le lt. gap.above (suc k) (omega arith) (omega arith);
}

-- a name at a later place is greater than the first
later : (x : List ℕ) (xs : List (List ℕ)) (n : List ℕ) (i : ℕ) → IsStrictlySortedBy name_cmp (x ∷ xs) → IsAt (x ∷ xs) n (suc i) → name_cmp n x ≡ Greater
later x xs n i sorted is =
    greater x n (ap (name_cmp x) (sym is.named) ∙ Less-from_sorted name_cmp (x ∷ xs) 0 (suc i) [] sorted (omega arith) is.in_range)

pub none_sorted : IsStrictlySortedBy name_cmp []
unfolding IsStrictlySortedBy
none_sorted = tt

-- a list in strict order is its own ordering
pub already_in_order : (xs : List (List ℕ)) → IsStrictlySortedBy name_cmp xs → in_order name_cmp xs ≡ xs
unfolding IsStrictlySortedBy
already_in_order [] s = refl
already_in_order (x ∷ []) s = refl
already_in_order (x ∷ y ∷ ys) s = rw (already_in_order (y ∷ ys) s.1, s.0.0)

module _ {V : Type 0} where
  here : (e : List ℕ × V) (es : List (List ℕ × V)) (n : List ℕ) → IsAt (keys (e ∷ es)) n 0 → name_cmp n e.0 ≡ Equal
  here e es n is = ap (name_cmp n) is.named ∙ tied_itself name_total n

  -- where the name is
  pub set_at : (es : List (List ℕ × V)) (n : List ℕ) (v : V) (i : ℕ) → IsStrictlySortedBy name_cmp (keys es) → IsAt (keys es) n i → set es i (n, v) ≡ insert_entry name_cmp es n v
  set_at [] n v i sorted is = absurd (omega (arith, is.in_range))
  set_at (e ∷ es) n v zero sorted is = rw (here e es n is) (ap (λ m. (m, v) ∷ es) (sym is.named))
  set_at (e ∷ es) n v (suc i) sorted is =
      rw (later e.0 (keys es) n i sorted is) (ap (λ l. e ∷ l) (set_at es n v i (sorted_tail name_cmp e.0 (keys es) sorted) (at_tail e.0 (keys es) n i is)))

  pub remove_at : (es : List (List ℕ × V)) (n : List ℕ) (i : ℕ) → IsStrictlySortedBy name_cmp (keys es) → IsAt (keys es) n i → remove es i ≡ remove_entry (is_at (name_cmp n)) es
  remove_at [] n i sorted is = absurd (omega (arith, is.in_range))
  remove_at (e ∷ es) n zero sorted is = rw (here e es n is)
  remove_at (e ∷ es) n (suc i) sorted is =
      rw (later e.0 (keys es) n i sorted is) (ap (λ l. e ∷ l) (remove_at es n i (sorted_tail name_cmp e.0 (keys es) sorted) (at_tail e.0 (keys es) n i is)))

  pub lookup_at : (es : List (List ℕ × V)) (n : List ℕ) (i : ℕ) (d : List ℕ × V) → IsStrictlySortedBy name_cmp (keys es) → IsAt (keys es) n i → lookup (is_at (name_cmp n)) es ≡ Some (get_or es i d).1
  lookup_at [] n i d sorted is = absurd (omega (arith, is.in_range))
  lookup_at (e ∷ es) n zero d sorted is = rw (here e es n is)
  lookup_at (e ∷ es) n (suc i) d sorted is =
      rw (later e.0 (keys es) n i sorted is) (lookup_at es n i d (sorted_tail name_cmp e.0 (keys es) sorted) (at_tail e.0 (keys es) n i is))

  -- where the name would go
  pub put_in_gap : (es : List (List ℕ × V)) (n : List ℕ) (v : V) (i : ℕ) → IsGapFor (keys es) n i → insert es i (n, v) ≡ insert_entry name_cmp es n v
  put_in_gap [] n v zero gap = refl
  put_in_gap [] n v (suc i) gap = refl
  put_in_gap (e ∷ es) n v zero gap = rw (gap.above 0 (omega arith) (omega arith))
  put_in_gap (e ∷ es) n v (suc i) gap =
      rw (greater e.0 n (gap.below 0 (omega arith))) (ap (λ l. e ∷ l) (put_in_gap es n v i (gap_tail e.0 (keys es) n (suc i) i (omega arith) gap)))

  -- there no entry has the name
  pub lookup_in_gap : (es : List (List ℕ × V)) (n : List ℕ) (i : ℕ) → IsGapFor (keys es) n i → lookup (is_at (name_cmp n)) es ≡ None
  lookup_in_gap [] n i gap = refl
  lookup_in_gap (e ∷ es) n zero gap = rw (gap.above 0 (omega arith) (omega arith)) (lookup_in_gap es n 0 (gap_tail e.0 (keys es) n 0 0 (omega arith) gap))
  lookup_in_gap (e ∷ es) n (suc i) gap = rw (greater e.0 n (gap.below 0 (omega arith))) (lookup_in_gap es n i (gap_tail e.0 (keys es) n (suc i) i (omega arith) gap))

  pub nothing_removed : (es : List (List ℕ × V)) (test : List ℕ → Bool) → lookup test es ≡ None → remove_entry test es ≡ es
  nothing_removed [] test none = refl
  nothing_removed (e ∷ es) test none = by_bool (test e.0) (λ t. absurd (none-some e.1 (sym (rw t at none)))) (λ f. rw f (ap (λ l. e ∷ l) (nothing_removed es test (rw f at none))))

  -- the names stay in order
  pub keys_put : (es : List (List ℕ × V)) (n : List ℕ) (v : V) → keys (insert_entry name_cmp es n v) ≡ insert_key name_cmp (keys es) n
  keys_put [] n v = refl
  keys_put (e ∷ es) n v = by_order (name_cmp n e.0) (λ l. rw l) (λ q. rw q) (λ g. rw g (ap (λ l. e.0 ∷ l) (keys_put es n v)))

  pub sorted_put : (es : List (List ℕ × V)) (n : List ℕ) (v : V) → IsStrictlySortedBy name_cmp (keys es) → IsStrictlySortedBy name_cmp (keys (insert_entry name_cmp es n v))
  sorted_put es n v sorted =
      subst (IsStrictlySortedBy name_cmp) (ap (λ l. insert_key name_cmp l n) (already_in_order (keys es) sorted) ∙ sym (keys_put es n v)) (in_order-sorted name_cmp name_total (n ∷ keys es))

  pub all_removed : (P : List ℕ → Type 0) (test : List ℕ → Bool) (es : List (List ℕ × V)) → AllByRecursion P (keys es) → AllByRecursion P (keys (remove_entry test es))
  all_removed P test es all = recursion_from_All P _ (All-map-remove_entry test (λ e. e.0) P es (All-from_recursion P (keys es) all))

  pub sorted_removed : (test : List ℕ → Bool) (es : List (List ℕ × V)) → IsStrictlySortedBy name_cmp (keys es) → IsStrictlySortedBy name_cmp (keys (remove_entry test es))
  unfolding IsStrictlySortedBy
  sorted_removed test [] sorted = tt
  sorted_removed test (e ∷ es) sorted =
      by_bool (test e.0) (λ t. rw t sorted.1) (λ f. rw f (all_removed (λ m. name_cmp e.0 m ≡ Less) test es sorted.0, sorted_removed test es sorted.1))
