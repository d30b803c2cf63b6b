-- The lower half of some shelves and the upper one, and entries that are two lists joined.
use Rattle.std.proofs.Common.{◌≡◌, ℕ, zero, suc, ◌-◌, List, [], ◌∷◌, ◌++◌, length, take, drop, get_or, refl, sym, ap, ◌∙◌, arith, append_assoc, Some}
use Rattle.std.proofs.Math.Seq.{take-append_seam, drop-append_seam}
use Rattle.std.specs.{List.{AllByRecursion, slice_get}, declared.cmp.Ordering.TheVariants.{Less}}
use Rattle.fb_parse.specs.Text.Order.{name_cmp}
use Rattle.fb_library.specs.Shelves.{names_of, lasts_of, all_on, AreShelves}
use Rattle.fb_library.proofs.OnShelves.{Row, all_left, shelf_before}

module _ {V : Type 0} where
  pub all_halves : (ss : List (Row V)) (k : ℕ) → all_on (take k ss) ++ all_on (drop k ss) ≡ all_on ss
  all_halves [] zero = refl
  all_halves [] (suc k) = refl
  all_halves (s ∷ ss) zero = refl
  all_halves (s ∷ ss) (suc k) = append_assoc s.1 (all_on (take k ss)) (all_on (drop k ss)) ∙ ap (λ l. s.1 ++ l) (all_halves ss k)

  lower_lasts : (P : List ℕ → Type 0) (ss : List (Row V)) (k : ℕ) → AllByRecursion P (lasts_of ss) → AllByRecursion P (lasts_of (take k ss))
  lower_lasts P [] zero all = tt
  lower_lasts P [] (suc k) all = tt
  lower_lasts P (s ∷ ss) zero all = tt
  lower_lasts P (s ∷ ss) (suc k) all = (all.0, lower_lasts P ss k all.1)

  pub lower_half : (ss : List (Row V)) (k : ℕ) → AreShelves ss → AreShelves (take k ss)
  lower_half [] zero are = tt
  lower_half [] (suc k) are = tt
  lower_half (s ∷ ss) zero are = tt
  lower_half (s ∷ ss) (suc k) are =
      let P : List ℕ → Type 0 = λ m. name_cmp s.0 m ≡ Less in (
        shelf_before are.0 (all_left P (all_on (take k ss)) (all_on (drop k ss)) (rw (all_halves ss k) are.0.before)) (lower_lasts P ss k are.0.rising),
        lower_half ss k are.1,
      )

  pub upper_half : (ss : List (Row V)) (k : ℕ) → AreShelves ss → AreShelves (drop k ss)
  upper_half [] zero are = are
  upper_half [] (suc k) are = are
  upper_half (s ∷ ss) zero are = are
  upper_half (s ∷ ss) (suc k) are = upper_half ss k are.1

  -- ---- entries that are two lists joined, of which the lower has k + 1

  pub joined_lower : (low high : List (List ℕ × V)) (k : ℕ) → suc k ≡ length low → low ≡ take (suc k) (low ++ high)
  joined_lower low high k e = sym (take-append_seam low high) ∙ (λ i. take (sym e i) (low ++ high))

  pub joined_upper : (low high : List (List ℕ × V)) (k : ℕ) → suc k ≡ length low → high ≡ drop (suc k) (low ++ high)
  joined_upper low high k e = sym (drop-append_seam low high) ∙ (λ i. drop (sym e i) (low ++ high))

  pub joined_last : (low high : List (List ℕ × V)) (k : ℕ) (n : List ℕ) → Some n ≡ slice_get (names_of low) k → n ≡ get_or (names_of (low ++ high)) k []
  joined_last [] high k n is = absurd (cc)
  joined_last (x ∷ low) high zero n is = cc
  joined_last (x ∷ low) high (suc k) n is = joined_last low high k n is

  -- a list with a last name is not empty
  pub last_counts : (low : List (List ℕ × V)) (n : List ℕ) → Some n ≡ slice_get (names_of low) (length low - 1) → suc (length low - 1) ≡ length low
  last_counts [] n is = absurd (cc)
  last_counts (x ∷ low) n is = omega arith
