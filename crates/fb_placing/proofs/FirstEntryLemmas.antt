-- One more item of those of which the first counts.
use Rattle.std.proofs.Common.{ℕ, ◌≡◌, ◌<◌, ◌+◌, Bool, true, false, cond, List, [], ◌∷◌, ◌++◌, Option, Some, None, refl, sym, ◌∙◌, ap, take, drop, get_or, length, map, add-one}
use Rattle.std.proofs.{Math.Seq.{take-suc}, lemmas.List.{take-append-drop}}
use Rattle.std.specs.{Prelude.{option_map, find}, Option.{option_or}, Str.{bytes_eq}}
use Rattle.fb_placing.specs.FirstEntry.{first_at}

pub first_at-push : {X Y : Type 0} (key : X → List ℕ) (value : X → Y) (xs : List X) (x : X) (q : List ℕ) → first_at key value (xs ++ x ∷ []) q ≡ option_or (first_at key value xs q) (cond (bytes_eq (key x) q) (Some (value x)) None)
first_at-push {X = X} {Y = Y} key value [] x q = alone (bytes_eq (key x) q)
  where
    alone : (b : Bool) → option_map value (cond b (Some x) None) ≡ cond b (Some (value x)) None
    alone true = refl
    alone false = refl
first_at-push {X = X} {Y = Y} key value (y ∷ xs) x q = by_test (bytes_eq (key y) q) (first_at-push key value xs x q)
  where
    rest : Option X
    rest = find (λ (z : X). bytes_eq (key z) q) (xs ++ x ∷ [])

    by_test : (b : Bool) → option_map value (find (λ (z : X). bytes_eq (key z) q) (xs ++ x ∷ [])) ≡ option_or (first_at key value xs q) (cond (bytes_eq (key x) q) (Some (value x)) None) → option_map value (cond b (Some y) (find (λ (z : X). bytes_eq (key z) q) (xs ++ x ∷ []))) ≡ option_or (option_map value (cond b (Some y) (find (λ (z : X). bytes_eq (key z) q) xs))) (cond (bytes_eq (key x) q) (Some (value x)) None)
    by_test true h = refl
    by_test false h = h

-- the same of other forms of the items
pub first_at-map : {W X Y : Type 0} (form : W → X) (key : X → List ℕ) (value : X → Y) (ws : List W) (q : List ℕ) → first_at key value (map form ws) q ≡ first_at (λ w. key (form w)) (λ w. value (form w)) ws q
first_at-map form key value [] q = refl
first_at-map {W = W} {X = X} form key value (w ∷ ws) q = by_test (bytes_eq (key (form w)) q) (first_at-map form key value ws q)
  where
    by_test : (b : Bool) → first_at key value (map form ws) q ≡ first_at (λ w. key (form w)) (λ w. value (form w)) ws q → option_map value (cond b (Some (form w)) (find (λ (z : X). bytes_eq (key z) q) (map form ws))) ≡ option_map (λ (v : W). value (form v)) (cond b (Some w) (find (λ (v : W). bytes_eq (key (form v)) q) ws))
    by_test true h = refl
    by_test false h = h

-- one item further in a table
pub table_step : {X Y : Type 0} (key : X → List ℕ) (value : X → Y) (xs : List X) (i : ℕ) (x : X) (old new : List ℕ → Option Y) → i < length xs → x ≡ get_or xs i x → ((q : List ℕ) → old q ≡ first_at key value (take i xs) q) → ((q : List ℕ) → new q ≡ option_or (old q) (cond (bytes_eq (key x) q) (Some (value x)) None)) → (q : List ℕ) → new q ≡ first_at key value (take (i + 1) xs) q
table_step {X = X} {Y = Y} key value xs i x old new lt e is added q =
    let step : take i xs ++ x ∷ [] ≡ take (i + 1) xs =
    ap (λ (y : X). take i xs ++ y ∷ []) e ∙ sym (take-suc xs i x lt) ∙ ap (λ (n : ℕ). take n xs) (sym (add-one i)) in
    added q ∙ ap (λ (o : Option Y). option_or o (cond (bytes_eq (key x) q) (Some (value x)) None)) (is q)
    ∙ sym (first_at-push key value (take i xs) x q) ∙ ap (λ (ys : List X). first_at key value ys q) step

first_at-append : {X Y : Type 0} (key : X → List ℕ) (value : X → Y) (xs ys : List X) (q : List ℕ) → first_at key value (xs ++ ys) q ≡ option_or (first_at key value xs q) (first_at key value ys q)
first_at-append key value [] ys q = refl
first_at-append {X = X} {Y = Y} key value (x ∷ xs) ys q = by_test (bytes_eq (key x) q) (first_at-append key value xs ys q)
  where
    by_test : (b : Bool) → first_at key value (xs ++ ys) q ≡ option_or (first_at key value xs q) (first_at key value ys q) → option_map value (cond b (Some x) (find (λ (z : X). bytes_eq (key z) q) (xs ++ ys))) ≡ option_or (option_map value (cond b (Some x) (find (λ (z : X). bytes_eq (key z) q) xs))) (first_at key value ys q)
    by_test true h = refl
    by_test false h = h

one_more : {X : Type 0} (xs : List X) (i : ℕ) (x : X) → i < length xs → x ≡ get_or xs i x → take i xs ++ x ∷ [] ≡ take (i + 1) xs
one_more {X = X} xs i x lt e = ap (λ (y : X). take i xs ++ y ∷ []) e ∙ sym (take-suc xs i x lt) ∙ ap (λ (n : ℕ). take n xs) (sym (add-one i))

-- no item so far has the text as its key, and this one has
pub first_found : {X Y : Type 0} (key : X → List ℕ) (value : X → Y) (xs : List X) (i : ℕ) (x : X) (q : List ℕ) → i < length xs → x ≡ get_or xs i x → first_at key value (take i xs) q ≡ None → bytes_eq (key x) q ≡ true → first_at key value xs q ≡ Some (value x)
first_found {X = X} {Y = Y} key value xs i x q lt e none same =
    ap (λ (ys : List X). first_at key value ys q) (sym (take-append-drop (i + 1) xs))
    ∙ first_at-append key value (take (i + 1) xs) (drop (i + 1) xs) q
    ∙ ap (λ (o : Option Y). option_or o (first_at key value (drop (i + 1) xs) q)) here
  where
    here : first_at key value (take (i + 1) xs) q ≡ Some (value x)
    here =
        ap (λ (ys : List X). first_at key value ys q) (sym (one_more xs i x lt e)) ∙ first_at-push key value (take i xs) x q
        ∙ ap (λ (o : Option Y). option_or o (cond (bytes_eq (key x) q) (Some (value x)) None)) none
        ∙ ap (λ (b : Bool). cond b (Some (value x)) None) same
