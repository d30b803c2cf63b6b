-- Two strictly sorted lists with the same members are one list.
use Rattle.std.proofs.Common.{◌≡◌, List, [], ◌∷◌, ◌⊎◌, inl, inr, refl, sym, ◌∙◌, ap, subst}
use Rattle.std.proofs.lemmas.{List.Elements.{All-contains, All-from_recursion}, Map.Keys.{sorted_head, sorted_tail}}
use Rattle.std.specs.{Prelude.{Contains}, Cmp.{IsTotalOrder}, declared.cmp.Ordering.{Ordering}, declared.cmp.Ordering.TheVariants.{Less, Greater}}
use Rattle.std.specs.{Ordering.{ordering_reverse}, List.Sorted.{IsStrictlySortedBy}}
use Rattle.fb_tree.proofs.Text.Members.{contains_nothing, contains_here, contains_later, contains_cases}

-- the first element is below the later ones
first_below : {X : Type 0} (R : X → X → Ordering) (x : X) (xs : List X) (z : X) → IsStrictlySortedBy R (x ∷ xs) → Contains xs z → R x z ≡ Less
first_below R x xs z sorted c = All-contains (λ w. R x w ≡ Less) xs z (All-from_recursion (λ w. R x w ≡ Less) xs (sorted_head R x xs sorted)) c

not_both : {X : Type 0} {R : X → X → Ordering} (o : IsTotalOrder R) (x y : X) → R x y ≡ Less → R y x ≡ Less → ⊥
not_both o x y p q = let k = o.antisymm x y in let r : ordering_reverse Less ≡ Greater = refl in let s = ap ordering_reverse q in cc

later_only : {X : Type 0} {R : X → X → Ordering} → IsTotalOrder R → (u v z : X) (us : List X) → u ≡ v → R u z ≡ Less → (v ≡ z) ⊎ Contains us z → Contains us z
later_only o u v z us h l (inr d) = d
later_only {X = X} {R = R} o u v z us h l (inl e) =
    let itself : R u u ≡ Less = subst (λ (w : X). R u w ≡ Less) (sym (h ∙ e)) l in
    absurd (not_both o u u itself itself)

-- so the links and the borders of a network are one list each
pub same_sorted : {X : Type 0} {R : X → X → Ordering} → IsTotalOrder R → (xs ys : List X) → IsStrictlySortedBy R xs → IsStrictlySortedBy R ys → ((z : X) → Contains xs z → Contains ys z) → ((z : X) → Contains ys z → Contains xs z) → xs ≡ ys
same_sorted o [] [] p q f g = refl
same_sorted o [] (y ∷ ys) p q f g = absurd (contains_nothing y (g y (contains_here y ys)))
same_sorted o (x ∷ xs) [] p q f g = absurd (contains_nothing x (f x (contains_here x xs)))
same_sorted {R = R} o (x ∷ xs) (y ∷ ys) p q f g =
    let heads : x ≡ y = elim (contains_cases y ys x (f x (contains_here x xs))) [
      | inl e ↦ sym e
      | inr d ↦ elim (contains_cases x xs y (g y (contains_here y ys))) [ inl e ↦ e | inr c ↦ absurd (not_both o x y (first_below R x xs y p c) (first_below R y ys x q d)) ]
    ] in
    let tails : xs ≡ ys =
    same_sorted o xs ys (sorted_tail R x xs p) (sorted_tail R y ys q)
    (λ z c. later_only o x y z ys heads (first_below R x xs z p c) (contains_cases y ys z (f z (contains_later x xs z c))))
    (λ z c. later_only o y x z xs (sym heads) (first_below R y ys z q c) (contains_cases x xs z (g z (contains_later y ys z c)))) in
    cc
