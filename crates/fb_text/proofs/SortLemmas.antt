-- What is sorted and deduplicated is in order, each item once.
use Rattle.std.proofs.{Common.{◌≡◌, Bool, List, [], ◌∷◌, length, refl, sym, ap, ◌∙◌}, lemmas.Bool.Decides.{same_from_decides}}
use Rattle.std.proofs.lemmas.List.Kept.{Contains-dedup, Contains-from_dedup, IsStrictlySortedBy-dedup}
use Rattle.std.proofs.lemmas.List.Sorted.{Contains-permutation, IsPermutation-sym}
use Rattle.std.proofs.lemmas.Map.Keys.{sorted_from_all_adjacent}
use Rattle.std.proofs.lemmas.Map.Views.{tells_apart}
use Rattle.std.specs.{declared.cmp.Ordering.{Ordering}, declared.cmp.Ordering.TheVariants.{Less}, Ordering.{eq_by_cmp}}
use Rattle.std.specs.{Cmp.{IsEquivalence, IsTotalOrder}, FinMap.{IsAntisymmetric}, BTreeSet.{insert_key}}
use Rattle.std.specs.List.{AllAdjacentBelow, AllByRecursion, Contains, dedup}
use Rattle.std.specs.List.Sorted.{IsPermutation, IsSorted, IsStrictlySortedBy}
use Rattle.fb_text.specs.Order.{in_order}
use Rattle.fb_text.proofs.OrderLemmas.{has_member, member_has, in_order-same}

module _ {K : Type 0} (R : K → K → Ordering) where
  first : (x : K) (xs : List K) → AllByRecursion (λ y. R x y ≡ Less) xs → insert_key R xs x ≡ x ∷ xs
  first x [] a = refl
  first x (y ∷ ys) a = rw a.0

  -- a list in strict order stays as it is
  pub in_order-itself : (xs : List K) → IsStrictlySortedBy R xs → in_order R xs ≡ xs
  unfolding IsStrictlySortedBy
  in_order-itself [] s = refl
  in_order-itself (x ∷ xs) s = ap (λ l. insert_key R l x) (in_order-itself xs s.1) ∙ first x xs s.0

  module _ (o : IsTotalOrder R) where
    pub strict_from_adjacent : (xs : List K) → AllAdjacentBelow (λ x y. R x y ≡ Less) xs (length xs) → IsStrictlySortedBy R xs
    unfolding IsStrictlySortedBy
    strict_from_adjacent [] a = tt
    strict_from_adjacent (x ∷ xs) a = sorted_from_all_adjacent o (x ∷ xs) x (λ k h. a k x h)

    -- two strictly sorted lists with the same members are equal
    pub in_order-members_same : IsAntisymmetric R → (xs ys : List K) → IsStrictlySortedBy R ys → ((q : K) → Contains xs q → Contains ys q) → ((q : K) → Contains ys q → Contains xs q) → ys ≡ in_order R xs
    in_order-members_same same xs ys s to from =
        sym (in_order-itself ys s)
        ∙ in_order-same R o same ys xs (λ q. same_from_decides {P = Contains ys q} _ _ (has_member R same ys q, member_has R o ys q) (λ h. to q (has_member R same xs q h), λ c. member_has R o xs q (from q c)))

    pub in_order-dedup : IsAntisymmetric R → {E : K → K → Bool} → IsEquivalence E → ((x y : K) → E x y ≡ eq_by_cmp R x y) → (old sorted : List K) → IsPermutation old sorted → IsSorted R sorted → dedup E sorted ≡ in_order R old
    in_order-dedup same {E} e ties old sorted moved up =
        in_order-members_same same old (dedup E sorted) (IsStrictlySortedBy-dedup o ties sorted up)
        (λ q c. Contains-dedup e (λ x y h. tells_apart same x y (sym (ties x y) ∙ h)) sorted q (Contains-permutation old sorted q moved c))
        (λ q c. Contains-permutation sorted old q (IsPermutation-sym old sorted moved) (Contains-from_dedup E sorted q c))
