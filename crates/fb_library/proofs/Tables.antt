-- What a table has under a name, and at an index.
use Rattle.std.proofs.Common.{◌≡◌, ℕ, zero, suc, ◌+◌, ◌<◌, ◌≤◌, true, List, [], ◌∷◌, ◌++◌, length, map, take, drop, get_or, refl, sym, ap, ◌∙◌, arith, append_assoc, Option, Some, None}
use Rattle.std.proofs.{lemmas.Bool.{false≢true}, lemmas.List.{append-nil, length-map, map-append, at_drop_more, take_more, get_or_past}}
use Rattle.std.specs.{List.{slice_get}, Option.{option_map, is_some}, Map.{lookup}, BTreeMap.{is_at}}
use Rattle.fb_parse.specs.Text.Order.{name_cmp}
use Rattle.fb_library.specs.Shelves.{names_of, lasts_of, all_on, AreShelves, IsShelfFor, reaches}
use Rattle.fb_library.proofs.{Appended.{lookup_behind}, ShelfRows.{row_there}, OnShelves.{Row, below_shelf, lookup_on}, Names.{by_order}, Places.{less}}

module _ {A B : Type 0} (f : A → B) where
  pub some_found : (o : Option A) (l : Option B) → option_map f o ≡ l → true ≡ is_some o → (v : B) × (l ≡ Some v)
  some_found None l e is = absurd (false≢true (sym is))
  some_found (Some a) l e is = (f a, sym e)

module _ {V : Type 0} where
  -- a name that is found is reached
  pub reaches_found : (ss : List (Row V)) (n : List ℕ) (v : V) → AreShelves ss → lookup (is_at (name_cmp n)) (all_on ss) ≡ Some v → reaches (lasts_of ss) n ≡ true
  reaches_found [] n v are found = absurd (cc)
  reaches_found (s ∷ ss) n v are found =
      by_order (name_cmp n s.0) (λ l. rw l) (λ e. rw e)
      (λ g. rw g (reaches_found ss n v are.1 (sym (lookup_behind n s.1 (all_on ss) (below_shelf s ss n are.0 (less n s.0 g))) ∙ found)))

  -- ---- names along the shelves

  pub names_append : (xs ys : List (List ℕ × V)) → names_of (xs ++ ys) ≡ names_of xs ++ names_of ys
  names_append xs ys = map-append _ xs ys

  pub name_first : (xs ys : List (List ℕ × V)) (i : ℕ) → i < length xs → slice_get (names_of (xs ++ ys)) i ≡ slice_get (names_of xs) i
  name_first [] ys i lt = absurd (omega (arith, lt))
  name_first (x ∷ xs) ys zero lt = refl
  name_first (x ∷ xs) ys (suc i) lt = name_first xs ys i (omega (arith, lt))

  pub name_later : (xs ys : List (List ℕ × V)) (i j : ℕ) → i ≡ length xs + j → slice_get (names_of (xs ++ ys)) i ≡ slice_get (names_of ys) j
  name_later [] ys i j e = let same : i ≡ j = omega arith in ap (slice_get (names_of ys)) same
  name_later (x ∷ xs) ys zero j e = absurd (omega (arith, e))
  name_later (x ∷ xs) ys (suc i) j e = name_later xs ys i j (omega (arith, e))

module _ {A V : Type 0} (row : A → Row V) where
  pub found_on : (xs : List A) (n : List ℕ) (i : ℕ) (x : A) → AreShelves (map row xs) → IsShelfFor (lasts_of (map row xs)) n i → i < length xs → x ≡ get_or xs i x → lookup (is_at (name_cmp n)) (row x).1 ≡ lookup (is_at (name_cmp n)) (all_on (map row xs))
  found_on xs n i x are is lt stood = (λ k. lookup (is_at (name_cmp n)) (sym (row_there row xs i x lt stood) k).1) ∙ sym (lookup_on (map row xs) n i are is)

  pub none_on : (xs : List A) (n : List ℕ) (i : ℕ) → AreShelves (map row xs) → IsShelfFor (lasts_of (map row xs)) n i → length xs ≤ i → None ≡ lookup (is_at (name_cmp n)) (all_on (map row xs))
  none_on xs n i are is past =
      ap (λ (r : Row V). lookup (is_at (name_cmp n)) r.1) (sym (get_or_past (map row xs) i ([], []) (omega (arith, past, length-map xs row)))) ∙ sym (lookup_on (map row xs) n i are is)

  pub entries_left : (xs : List A) (i : ℕ) (x : A) → i < length xs → x ≡ get_or xs i x → all_on (map row (drop i xs)) ≡ (row x).1 ++ all_on (map row (drop (i + 1) xs))
  entries_left xs i x lt is =
      at_drop_more (λ (ys : List A). all_on (map row ys)) xs i x lt ∙ ap (λ (z : A). (row z).1 ++ all_on (map row (drop (i + 1) xs))) (sym is)

  all_push : (xs : List A) (x : A) → all_on (map row (xs ++ x ∷ [])) ≡ all_on (map row xs) ++ (row x).1
  all_push [] x = append-nil (row x).1
  all_push (y ∷ xs) x = ap (λ l. (row y).1 ++ l) (all_push xs x) ∙ sym (append_assoc (row y).1 (all_on (map row xs)) (row x).1)

  pub entries_more : (xs : List A) (i : ℕ) (x : A) → i < length xs → x ≡ get_or xs i x → all_on (map row (take (i + 1) xs)) ≡ all_on (map row (take i xs)) ++ (row x).1
  entries_more xs i x lt is =
      ap (λ (ys : List A). all_on (map row ys)) (take_more xs i x lt) ∙ all_push (take i xs) _ ∙ ap (λ (z : A). all_on (map row (take i xs)) ++ (row z).1) (sym is)
