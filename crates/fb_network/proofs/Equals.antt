-- What compares equal is equal.
use Rattle.std.proofs.Common.{ℕ, ◌≡◌, true, false, List, ◌∷◌, [], refl, sym, ap, arith}
use Rattle.std.specs.{declared.cmp.Ordering.TheVariants.{Equal}, Ordering.{eq_by_cmp, is_eq, nat_cmp, ordering_then}, Cmp.{tied_itself}}
use Rattle.std.specs.{Cmp.Lexicographic.{nat_list_cmp_total}, FinMap.{nat_cmp-IsAntisymmetric, slice_cmp-IsAntisymmetric}, BTreeMap.{is_at}}
use Rattle.fb_tree.proofs.{Text.OrderLemmas.{is_equal, both_equal}, Text.Tests.{by_bool}}
use Rattle.fb_tree.specs.{Text.Order.{name_cmp}, declared.network.Sort.{Sort}}
use Rattle.fb_network.specs.{Sorts.{number_of, same_sort}, Places.{dotted}, Network.{Place}, Printed.{printed}, LinkOrder.{border_cmp, link_cmp}}
use Rattle.fb_network.specs.{declared.flat.Link.{Link}, declared.flat.Border.{Border}}

exact_name : (x y : List ℕ) → name_cmp x y ≡ Equal → x ≡ y
exact_name x y e = slice_cmp-IsAntisymmetric nat_cmp-IsAntisymmetric x y e

-- equal names pass the test, and those that pass it are equal
pub same_bytes : (xs ys : List ℕ) → is_at (name_cmp xs) ys ≡ true → xs ≡ ys
same_bytes xs ys h = exact_name xs ys (is_equal (name_cmp xs ys) h)

pub bytes_same : (xs : List ℕ) → is_at (name_cmp xs) xs ≡ true
bytes_same xs = ap is_eq (tied_itself nat_list_cmp_total xs)

-- a name fails the test of another name
pub not_at : (xs ys : List ℕ) → (ys ≡ xs → ⊥) → is_at (name_cmp xs) ys ≡ false
not_at xs ys n = by_bool (is_at (name_cmp xs) ys) (λ t. absurd (n (sym (same_bytes xs ys t)))) (λ f. f)

pub at_not : (xs ys : List ℕ) → is_at (name_cmp xs) ys ≡ false → ys ≡ xs → ⊥
at_not xs ys e s = let same : is_at (name_cmp xs) ys ≡ true = let h = ap (is_at (name_cmp xs)) s in let k = bytes_same xs in cc in cc

pub same_sorts : (a b : Sort) → same_sort a b ≡ true → a ≡ b
same_sorts a b h = grind arith

pub sort_same : (a : Sort) → same_sort a a ≡ true
sort_same a = grind arith

exact_sort : (a b : Sort) → number_of a ≡ number_of b → a ≡ b
exact_sort a b e = grind arith

-- links of one sort between equal texts
pub same_links : {a b c d : List ℕ} {sort sort' : Sort} → sort ≡ sort' → a ≡ b → c ≡ d → (let l : Link = record { sort = sort; from = a; to = c } in l) ≡ record { sort = sort'; from = b; to = d }
same_links k p q = λ i. record { sort = k i; from = p i; to = q i }

pub same_borders : {a b c d : List ℕ} {sort sort' : Sort} → sort ≡ sort' → a ≡ b → c ≡ d → (let l : Border = record { sort = sort; port = a; place = c } in l) ≡ record { sort = sort'; port = b; place = d }
same_borders k p q = λ i. record { sort = k i; port = p i; place = q i }

-- links that compare equal are one
pub exact_link : (a b : Link) → eq_by_cmp link_cmp a b ≡ true → a ≡ b
exact_link a b e =
    let parts = both_equal (nat_cmp (number_of a.sort) (number_of b.sort)) (ordering_then (name_cmp a.from b.from) (name_cmp a.to b.to)) (is_equal (link_cmp a b) e) in
    let ends = both_equal (name_cmp a.from b.from) (name_cmp a.to b.to) parts.1 in
    same_links (exact_sort a.sort b.sort (nat_cmp-IsAntisymmetric (number_of a.sort) (number_of b.sort) parts.0)) (exact_name a.from b.from ends.0) (exact_name a.to b.to ends.1)

-- borders that compare equal are one
pub exact_border : (a b : Border) → eq_by_cmp border_cmp a b ≡ true → a ≡ b
exact_border a b e =
    let parts = both_equal (nat_cmp (number_of a.sort) (number_of b.sort)) (ordering_then (name_cmp a.port b.port) (name_cmp a.place b.place)) (is_equal (border_cmp a b) e) in
    let ends = both_equal (name_cmp a.port b.port) (name_cmp a.place b.place) parts.1 in
    same_borders (exact_sort a.sort b.sort (nat_cmp-IsAntisymmetric (number_of a.sort) (number_of b.sort) parts.0)) (exact_name a.port b.port ends.0) (exact_name a.place b.place ends.1)

-- the printed place inside an instance
pub printed-within : (name : List ℕ) (a : Place) → (a ≡ [] → ⊥) → printed (name ∷ a) ≡ dotted name (printed a)
printed-within name [] n = absurd (n refl)
printed-within name (x ∷ a) n = refl
