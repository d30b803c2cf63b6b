-- Names with points between, one name further.
use Rattle.std.proofs.Common.{ℕ, zero, suc, ◌≡◌, ◌<◌, ◌+◌, List, [], ◌∷◌, ◌++◌, refl, sym, ◌∙◌, ap, append_assoc, map, take, get_or, length, add-one, arith}
use Rattle.std.proofs.Math.Seq.{take-suc}
use Rattle.fb_tree.specs.Text.declared.name.NameUse.{NameUse}
use Rattle.fb_network.specs.{Places.{dotted}, Network.{Place}, Printed.{printed}}
use Rattle.fb_placing.specs.Mappings.{names_used}

pub printed-push : (x : List ℕ) (xs : Place) (y : List ℕ) → printed ((x ∷ xs) ++ y ∷ []) ≡ dotted (printed (x ∷ xs)) y
printed-push x [] y = refl
printed-push x (z ∷ xs) y = ap (λ (t : List ℕ). dotted x t) (printed-push z xs y) ∙ sym (append_assoc x (46 ∷ printed (z ∷ xs)) (46 ∷ y))

map-push : {X Y : Type 0} (f : X → Y) (xs : List X) (x : X) → map f (xs ++ x ∷ []) ≡ map f xs ++ f x ∷ []
map-push f [] x = refl
map-push f (y ∷ xs) x = ap (λ l. f y ∷ l) (map-push f xs x)

one_more : {X : Type 0} (xs : List X) (i : ℕ) (x : X) → i < length xs → x ≡ get_or xs i x → take (i + 1) xs ≡ take i xs ++ x ∷ []
one_more {X = X} xs i x lt e = ap (λ (n : ℕ). take n xs) (add-one i) ∙ take-suc xs i x lt ∙ ap (λ (y : X). take i xs ++ y ∷ []) (sym e)

used_more : (names : List NameUse) (i : ℕ) (x : NameUse) → i < length names → x ≡ get_or names i x → names_used (take (i + 1) names) ≡ names_used (take i names) ++ x.name ∷ []
used_more names i x lt e = ap names_used (one_more names i x lt e) ∙ map-push (λ (n : NameUse). n.name) (take i names) x

-- one name further behind the first
pub path_next : (first : NameUse) (others : List NameUse) (i : ℕ) (x : NameUse) → i < length others → x ≡ get_or others i x → dotted (printed (names_used (first ∷ take i others))) x.name ≡ printed (names_used (first ∷ take (i + 1) others))
path_next first others i x lt e =
    sym (ap (λ (l : Place). printed (first.name ∷ l)) (used_more others i x lt e) ∙ printed-push first.name (names_used (take i others)) x.name)

-- the first name
pub joined_first : (names : List NameUse) (i : ℕ) (x : NameUse) → i ≡ 0 → i < length names → x ≡ get_or names i x → printed (names_used (take i names)) ++ x.name ≡ printed (names_used (take (i + 1) names))
joined_first names i x none lt e =
    let start : names_used (take i names) ≡ [] = ap (λ (n : ℕ). names_used (take n names)) none in
    ap (λ (l : Place). printed l ++ x.name) start
    ∙ sym (ap printed (used_more names i x lt e ∙ ap (λ (l : Place). l ++ x.name ∷ []) start))

-- a later name
pub joined_next : (names : List NameUse) (i : ℕ) (x : NameUse) → 0 < i → i < length names → x ≡ get_or names i x → printed (names_used (take i names)) ++ 46 ∷ x.name ≡ printed (names_used (take (i + 1) names))
joined_next [] i x some lt e = absurd (omega arith)
joined_next (z ∷ names) zero x some lt e = absurd (omega arith)
joined_next (z ∷ names) (suc j) x some lt e =
    sym (ap printed (used_more (z ∷ names) (suc j) x lt e) ∙ printed-push z.name (names_used (take j names)) x.name)
