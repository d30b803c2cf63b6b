-- Two lists with the same items are the same in order.
use Rattle.std.proofs.Common.{◌↔◌, nat_eq, ◌≡◌, ℕ, Bool, true, cond, ◌||◌, List, [], ◌∷◌, ◌++◌, map, is_some, Some, None, refl, sym, ap, ◌∙◌, arith}
use Rattle.std.proofs.lemmas.Map.Views.{All-insert_key, Contains-from_any, list_any-from_Contains, tells_apart}
use Rattle.std.proofs.{lemmas.Cmp.{eq_by_cmp_equiv}, lemmas.List.{nil_from_length}, lemmas.List.Elements.{All-from_recursion, recursion_from_All}}
use Rattle.std.specs.{declared.cmp.Ordering.{Ordering}, declared.cmp.Ordering.TheVariants.{Less, Equal, Greater}, List.{list_any, AllByRecursion, Contains}}
use Rattle.std.specs.{Ordering.{eq_by_cmp, is_eq, ordering_reverse, ordering_then}, List.Sorted.{IsStrictlySortedBy}, BTreeMap.{is_at}}
use Rattle.std.specs.{Cmp.Lexicographic.{pointwise, texts_ties}, Cmp.{IsTotalOrder}}
use Rattle.std.specs.FinMap.{IsAntisymmetric, from_entries, entries, entries-insert, get-from_entries, contains_key-keys, same_map, len-entries, len-empty}
use Rattle.std.specs.{FinMap.Entries.{find, put}, BTreeSet.{insert_key}}
use Rattle.fb_text.specs.Order.{in_order, name_cmp}
use Rattle.fb_text.proofs.Tests.{by_bool, or_assoc}

pub is_equal : (r : Ordering) → is_eq r ≡ true → r ≡ Equal
is_equal r e = grind arith

pub both_equal : (r s : Ordering) → ordering_then r s ≡ Equal → (r ≡ Equal) × (s ≡ Equal)
both_equal r s e = grind arith

-- two names are equal where their order finds them so
pub same_name : (a b : List ℕ) → pointwise nat_eq a b ≡ is_at (name_cmp a) b
same_name a b = texts_ties a b

-- the three answers of an order
by_order : {P : Type 0} (r : Ordering) → (r ≡ Less → P) → (r ≡ Equal → P) → (r ≡ Greater → P) → P
by_order Less l e g = l refl
by_order Equal l e g = e refl
by_order Greater l e g = g refl

-- each item as a key
abbrev pairs : {K : Type 0} → List K → List (K × Unit {0})
pairs xs = map (λ x. (x, tt)) xs

is_some-cond : (b : Bool) → is_some {T = Unit {0}} (cond b (Some tt) None) ≡ b
is_some-cond b = grind arith

module _ {K : Type 0} (R : K → K → Ordering) where
  -- whether the list has an item that compares equal
  abbrev pub has : List K → K → Bool
  has xs q = list_any (eq_by_cmp R q) xs

  pub has-append : (xs ys : List K) (q : K) → has (xs ++ ys) q ≡ (has xs q || has ys q)
  has-append [] ys q = refl
  has-append (x ∷ xs) ys q = ap (λ b. eq_by_cmp R q x || b) (has-append xs ys q) ∙ or_assoc (eq_by_cmp R q x) (has xs q) (has ys q)

  keys-put : (k : K) (es : List (K × Unit {0})) → map (λ e. e.0) (put R k tt es) ≡ insert_key R (map (λ e. e.0) es) k
  keys-put k [] = refl
  keys-put k (e ∷ es) = by_order (R k e.0) (λ l. rw l) (λ q. rw q) (λ g. rw g (ap (λ l. e.0 ∷ l) (keys-put k es)))

  find-pairs : (xs : List K) (q : K) → find R q (pairs xs) ≡ cond (has xs q) (Some tt) None
  find-pairs [] q = refl
  find-pairs (x ∷ xs) q = by_bool (eq_by_cmp R q x) (λ t. rw t) (λ f. rw f (find-pairs xs q))

  pub has_member : IsAntisymmetric R → (xs : List K) (q : K) → has xs q ≡ true → Contains xs q
  has_member same xs q h = Contains-from_any (tells_apart same) q xs h

  module _ (o : IsTotalOrder R) where
    -- the items in order are the keys of a finite map
    in_order-is : (xs : List K) → in_order R xs ≡ map (λ e. e.0) (entries (from_entries {R = R} (pairs xs)))
    in_order-is [] = sym (ap (map (λ e. e.0)) (nil_from_length _ (sym (len-entries _) ∙ len-empty R (Unit {0}))))
    in_order-is (x ∷ xs) =
        ap (λ l. insert_key R l x) (in_order-is xs)
        ∙ sym (keys-put x _)
        ∙ ap (map (λ e. e.0)) (sym (entries-insert o _ x tt))

    pub has-in_order : (xs : List K) (q : K) → has (in_order R xs) q ≡ has xs q
    has-in_order xs q =
        ap (λ l. has l q) (in_order-is xs)
        ∙ sym (contains_key-keys (from_entries {R = R} (pairs xs)) q)
        ∙ ap is_some (get-from_entries o (pairs xs) q ∙ find-pairs xs q)
        ∙ is_some-cond (has xs q)

    pub in_order-same : IsAntisymmetric R → (xs ys : List K) → ((q : K) → has xs q ≡ has ys q) → in_order R xs ≡ in_order R ys
    in_order-same same xs ys is =
        let maps = same_map o same (from_entries {R = R} (pairs xs)) (from_entries {R = R} (pairs ys)) (λ q. get-from_entries o (pairs xs) q ∙ find-pairs xs q ∙ ap (λ b. cond b (Some tt) None) (is q) ∙ sym (get-from_entries o (pairs ys) q ∙ find-pairs ys q)) in
        in_order-is xs ∙ ap (λ m. map (λ e. e.0) (entries m)) maps ∙ sym (in_order-is ys)

    -- a key put into its place leaves the keys sorted
    less_after : (k x : K) (xs : List K) → R k x ≡ Less → AllByRecursion (λ y. R x y ≡ Less) xs → AllByRecursion (λ y. R k y ≡ Less) xs
    less_after k x [] e a = tt
    less_after k x (y ∷ ys) e a = (o.trans k x y e a.0, less_after k x ys e a.1)

    greater_is_less : (k x : K) → R k x ≡ Greater → R x k ≡ Less
    greater_is_less k x e = o.antisymm x k ∙ ap ordering_reverse e

    insert-sorted : (ks : List K) (k : K) → IsStrictlySortedBy R ks → IsStrictlySortedBy R (insert_key R ks k)
    unfolding IsStrictlySortedBy
    insert-sorted [] k s = (tt, tt)
    insert-sorted (x ∷ xs) k s =
        by_order (R k x) (λ l. rw l ((l, less_after k x xs l s.0), s)) (λ e. rw e s)
        (λ g. rw g (recursion_from_All (λ y. R x y ≡ Less) _ (All-insert_key R k (λ y. R x y ≡ Less) xs (All-from_recursion (λ y. R x y ≡ Less) xs s.0) (greater_is_less k x g)), insert-sorted xs k s.1))

    pub in_order-sorted : (xs : List K) → IsStrictlySortedBy R (in_order R xs)
    unfolding IsStrictlySortedBy
    in_order-sorted [] = tt
    in_order-sorted (x ∷ xs) = insert-sorted (in_order R xs) x (in_order-sorted xs)

    pub member_has : (xs : List K) (q : K) → Contains xs q → has xs q ≡ true
    member_has xs q c = list_any-from_Contains (eq_by_cmp_equiv o) q xs c

    pub in_order-members : IsAntisymmetric R → (xs : List K) (q : K) → Contains (in_order R xs) q ↔ Contains xs q
    in_order-members same xs q = (
      λ c. has_member same xs q (sym (has-in_order xs q) ∙ member_has (in_order R xs) q c),
      λ c. has_member same (in_order R xs) q (has-in_order xs q ∙ member_has xs q c),
    )
