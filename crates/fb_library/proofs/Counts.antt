-- How many entries there are after an edit.
use Rattle.std.proofs.Common.{◌≡◌, ℕ, zero, suc, ◌+◌, ◌<◌, ◌≤◌, Bool, List, [], ◌∷◌, length, map, get_or, set, ap, arith, Some}
use Rattle.std.proofs.lemmas.List.{length-append}
use Rattle.std.specs.Map.{lookup, remove_entry}
use Rattle.fb_parse.proofs.Text.Tests.{by_bool}
use Rattle.fb_library.specs.Shelves.{all_on}
use Rattle.fb_library.proofs.OnShelves.{Row}

module _ {A V : Type 0} (row : A → Row V) where
  -- a shelf has no more entries than all of them
  pub length_shelf : (xs : List A) (i : ℕ) (x : A) → i < length xs → x ≡ get_or xs i x → length (row x).1 ≤ length (all_on (map row xs))
  length_shelf [] i x lt is = absurd (omega (arith, lt))
  length_shelf (y ∷ xs) zero x lt is = omega (arith, ap (λ (z : A). length (row z).1) is, length-append {A = List ℕ × V})
  length_shelf (y ∷ xs) (suc i) x lt is = omega (arith, length_shelf xs i x (omega (arith, lt)) is, length-append {A = List ℕ × V})

  -- where one shelf takes the place of another, the others have the entries that they had
  pub length_changed : (xs : List A) (i : ℕ) (old now : A) → i < length xs → old ≡ get_or xs i old → length (all_on (map row (set xs i now))) + length (row old).1 ≡ length (all_on (map row xs)) + length (row now).1
  length_changed [] i old now lt is = absurd (omega (arith, lt))
  length_changed (y ∷ xs) zero old now lt is = omega (arith, ap (λ (z : A). length (row z).1) is, length-append {A = List ℕ × V})
  length_changed (y ∷ xs) (suc i) old now lt is = omega (arith, length_changed xs i old now (omega (arith, lt)) is, length-append {A = List ℕ × V})

pub length_removed : {V : Type 0} (es : List (List ℕ × V)) (test : List ℕ → Bool) (it : V) → lookup test es ≡ Some it → length (remove_entry test es) + 1 ≡ length es
length_removed [] test it found = absurd (cc)
length_removed (e ∷ es) test it found = by_bool (test e.0) (λ t. rw t (omega arith)) (λ f. rw f (omega (arith, length_removed es test it (rw f at found))))
