-- Entries of which some are less than a name and the others greater: what is done at the name is done in one part.
use Rattle.std.proofs.Common.{◌≡◌, ℕ, List, [], ◌∷◌, ◌++◌, cond, refl, ap, Some, None}
use Rattle.std.specs.{List.{AllByRecursion}, Map.{lookup, remove_entry}, BTreeMap.{is_at, insert_entry}}
use Rattle.std.specs.declared.cmp.Ordering.TheVariants.{Less}
use Rattle.fb_parse.specs.Text.Order.{name_cmp}
use Rattle.fb_parse.proofs.Text.Tests.{by_bool}
use Rattle.fb_library.specs.Shelves.{names_of}
use Rattle.fb_library.proofs.{Names.{by_order}, Places.{greater, nothing_removed}}

module _ {V : Type 0} where
  abbrev pub AllBelow : List ℕ → List (List ℕ × V) → Type 0
  AllBelow n es = AllByRecursion (λ m. name_cmp m n ≡ Less) (names_of es)

  abbrev pub AllAbove : List ℕ → List (List ℕ × V) → Type 0
  AllAbove n es = AllByRecursion (λ m. name_cmp n m ≡ Less) (names_of es)

  none_above : (n : List ℕ) (es : List (List ℕ × V)) → AllAbove n es → lookup (is_at (name_cmp n)) es ≡ None
  none_above n [] above = refl
  none_above n (e ∷ es) above = rw above.0 (none_above n es above.1)

  -- ---- behind entries that are less

  pub lookup_behind : (n : List ℕ) (xs ys : List (List ℕ × V)) → AllBelow n xs → lookup (is_at (name_cmp n)) (xs ++ ys) ≡ lookup (is_at (name_cmp n)) ys
  lookup_behind n [] ys below = refl
  lookup_behind n (x ∷ xs) ys below = rw (greater x.0 n below.0) (lookup_behind n xs ys below.1)

  pub put_behind : (n : List ℕ) (v : V) (xs ys : List (List ℕ × V)) → AllBelow n xs → insert_entry name_cmp (xs ++ ys) n v ≡ xs ++ insert_entry name_cmp ys n v
  put_behind n v [] ys below = refl
  put_behind n v (x ∷ xs) ys below = rw (greater x.0 n below.0) (ap (λ l. x ∷ l) (put_behind n v xs ys below.1))

  pub remove_behind : (n : List ℕ) (xs ys : List (List ℕ × V)) → AllBelow n xs → remove_entry (is_at (name_cmp n)) (xs ++ ys) ≡ xs ++ remove_entry (is_at (name_cmp n)) ys
  remove_behind n [] ys below = refl
  remove_behind n (x ∷ xs) ys below = rw (greater x.0 n below.0) (ap (λ l. x ∷ l) (remove_behind n xs ys below.1))

  -- ---- before entries that are greater

  pub lookup_before : (n : List ℕ) (xs ys : List (List ℕ × V)) → AllAbove n ys → lookup (is_at (name_cmp n)) (xs ++ ys) ≡ lookup (is_at (name_cmp n)) xs
  lookup_before n [] ys above = none_above n ys above
  lookup_before n (x ∷ xs) ys above = ap (λ o. cond (is_at (name_cmp n) x.0) (Some x.1) o) (lookup_before n xs ys above)

  pub put_before : (n : List ℕ) (v : V) (xs ys : List (List ℕ × V)) → AllAbove n ys → insert_entry name_cmp (xs ++ ys) n v ≡ insert_entry name_cmp xs n v ++ ys
  put_before n v [] [] above = refl
  put_before n v [] (y ∷ ys) above = rw above.0
  put_before n v (x ∷ xs) ys above = by_order (name_cmp n x.0) (λ l. rw l) (λ e. rw e) (λ g. rw g (ap (λ l. x ∷ l) (put_before n v xs ys above)))

  pub remove_before : (n : List ℕ) (xs ys : List (List ℕ × V)) → AllAbove n ys → remove_entry (is_at (name_cmp n)) (xs ++ ys) ≡ remove_entry (is_at (name_cmp n)) xs ++ ys
  remove_before n [] ys above = nothing_removed ys (is_at (name_cmp n)) (none_above n ys above)
  remove_before n (x ∷ xs) ys above = by_bool (is_at (name_cmp n) x.0) (λ t. rw t) (λ f. rw f (ap (λ l. x ∷ l) (remove_before n xs ys above)))
