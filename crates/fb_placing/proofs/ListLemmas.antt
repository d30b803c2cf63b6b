-- Lists of what is given and of what passes, one item further.
use Rattle.std.proofs.Common.{ℕ, ◌≡◌, ◌<◌, ◌+◌, Bool, cond, List, [], ◌∷◌, ◌++◌, Option, Some, None, refl, sym, ◌∙◌, ap, take, get_or, length, map, add-one}
use Rattle.std.proofs.Math.Seq.{take-suc}
use Rattle.std.specs.{Prelude.{filter}, List.{cons_option, filter_map}}

pub one_more : {X : Type 0} (xs : List X) (i : ℕ) (x : X) → i < length xs → x ≡ get_or xs i x → take (i + 1) xs ≡ take i xs ++ x ∷ []
one_more {X = X} xs i x lt e = ap (λ (n : ℕ). take n xs) (add-one i) ∙ take-suc xs i x lt ∙ ap (λ (y : X). take i xs ++ y ∷ []) (sym e)

pub map-push : {X Y : Type 0} (f : X → Y) (xs : List X) (x : X) → map f (xs ++ x ∷ []) ≡ map f xs ++ f x ∷ []
map-push f [] x = refl
map-push f (y ∷ xs) x = ap (λ l. f y ∷ l) (map-push f xs x)

filter_map-push : {X Y : Type 0} (h : X → Option Y) (xs : List X) (x : X) → filter_map h (xs ++ x ∷ []) ≡ filter_map h xs ++ cons_option (h x) []
filter_map-push h [] x = refl
filter_map-push {Y = Y} h (y ∷ xs) x = by_given (h y) (filter_map-push h xs x)
  where
    by_given : (o : Option Y) → filter_map h (xs ++ x ∷ []) ≡ filter_map h xs ++ cons_option (h x) [] → cons_option o (filter_map h (xs ++ x ∷ [])) ≡ cons_option o (filter_map h xs) ++ cons_option (h x) []
    by_given None e = e
    by_given (Some z) e = ap (λ (l : List Y). z ∷ l) e

pub filter_map_step : {X Y : Type 0} (h : X → Option Y) (xs : List X) (i : ℕ) (x : X) (o : Option Y) (before after : List Y) → i < length xs → x ≡ get_or xs i x → before ≡ filter_map h (take i xs) → o ≡ h x → after ≡ before ++ cons_option o [] → after ≡ filter_map h (take (i + 1) xs)
filter_map_step {X = X} {Y = Y} h xs i x o before after lt e is given adds =
    adds ∙ (λ k. is k ++ cons_option (given k) []) ∙ sym (ap (filter_map h) (one_more xs i x lt e) ∙ filter_map-push h (take i xs) x)

-- tests that agree let the same items pass
pub filter_same : {X : Type 0} (p q : X → Bool) (xs : List X) → ((x : X) → p x ≡ q x) → filter p xs ≡ filter q xs
filter_same p q [] same = refl
filter_same {X = X} p q (x ∷ xs) same = λ k. cond (same x k) (x ∷ filter_same p q xs same k) (filter_same p q xs same k)
