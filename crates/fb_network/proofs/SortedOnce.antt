-- What is sorted by what it says, and then deduplicated, says each thing once, in order.
use Rattle.std.proofs.Common.{◌≡◌, Bool, true, List, [], ◌∷◌, length, map, refl, sym, subst, ◌∙◌}
use Rattle.std.proofs.lemmas.List.Elements.{All-contains, All-contains_itself, All-from_recursion, All-map, All-weaker, recursion_from_All}
use Rattle.std.proofs.lemmas.List.Kept.{Any-dedup, Contains-from_dedup, IsStrictlySortedBy-dedup}
use Rattle.std.proofs.lemmas.{List.Sorted.{Contains-permutation, IsPermutation-sym}, Map.Keys.{sorted_from_all_adjacent}}
use Rattle.std.specs.{declared.cmp.Ordering.{Ordering}, declared.cmp.Ordering.TheVariants.{Less}, Ordering.{eq_by_cmp, is_lt, on}}
use Rattle.std.specs.{Cmp.{IsTotalOrder, eq_by_cmp_equiv, on_total}, List.{All, AllAdjacentBelow, Contains, dedup}}
use Rattle.std.specs.List.Sorted.{IsPermutation, IsSortedBy, IsStrictlySortedBy}
use Rattle.fb_tree.proofs.Text.Members.{contains_map, origin_in_map}
use Rattle.fb_network.specs.Once.{IsOnce}

module _ {E X : Type 0} (says : E → X) (R : X → X → Ordering) where
  strict_map : (xs : List E) → IsStrictlySortedBy (on says R) xs → IsStrictlySortedBy R (map says xs)
  unfolding IsStrictlySortedBy
  strict_map [] p = tt
  strict_map (x ∷ xs) p =
      let below = λ (y : X). R (says x) y ≡ Less in
      (recursion_from_All below (map says xs) (All-map below says xs (All-from_recursion (λ y. R (says x) (says y) ≡ Less) xs p.0)), strict_map xs p.1)

  strict_from_adjacent : IsTotalOrder R → (es : List E) → AllAdjacentBelow (λ x y. R (says x) (says y) ≡ Less) es (length es) → IsStrictlySortedBy (on says R) es
  unfolding IsStrictlySortedBy
  strict_from_adjacent o [] a = tt
  strict_from_adjacent o (x ∷ xs) a = sorted_from_all_adjacent (on_total says o) (x ∷ xs) x (λ k h. a k x h)

  -- what is in order, each once, is left as it is
  pub risen_once : IsTotalOrder R → (es : List E) → AllAdjacentBelow (λ x y. R (says x) (says y) ≡ Less) es (length es) → IsOnce says R es es
  risen_once o es a = record { sorted = strict_map es (strict_from_adjacent o es a); kept = λ x c. c; left = λ e c. c }

  module _ (o : IsTotalOrder R) (exact : (x y : X) → eq_by_cmp R x y ≡ true → x ≡ y) where
    abbrev same : E → E → Bool
    same a b = eq_by_cmp R (says a) (says b)

    kept_once : (old sorted : List E) → IsPermutation old sorted → (x : X) → Contains (map says old) x → Contains (map says (dedup same sorted)) x
    kept_once old sorted moved x c =
        let m = origin_in_map says old x c in
        let k = Any-dedup (eq_by_cmp_equiv (on_total says o)) sorted m.origin (Contains-permutation old sorted m.origin moved m.among) in
        let there : Contains (map says (dedup same sorted)) (says k.1) = contains_map says (dedup same sorted) k.1 (k.0, k.2, k.3) in
        subst (λ (y : X). Contains (map says (dedup same sorted)) y) (sym (exact (says m.origin) (says k.1) k.4) ∙ m.gives) there

    pub sorted_once : (old sorted new : List E) → IsPermutation old sorted → IsSortedBy (λ a b. is_lt (R (says a) (says b))) sorted → new ≡ dedup same sorted → IsOnce says R old new
    sorted_once old sorted new moved up is =
        rw is (record {
          sorted = strict_map (dedup same sorted) (IsStrictlySortedBy-dedup (on_total says o) (λ a b. refl) sorted up);
          kept = kept_once old sorted moved;
          left = λ e c. Contains-permutation sorted old e (IsPermutation-sym old sorted moved) (Contains-from_dedup same sorted e c);
        })

-- what holds of all old entries holds of what is left
pub all_left : {E X : Type 0} {says : E → X} {R : X → X → Ordering} (P : E → Type 0) (old new : List E) → IsOnce says R old new → All P old → All P new
all_left P old new once all = All-weaker (Contains new) P (λ e c. All-contains P old e all (once.left e c)) new (All-contains_itself new)
