-- The names of a path, point by point.
use Rattle.std.proofs.Common.{ℕ, zero, suc, ◌≡◌, ◌<◌, ◌≤◌, ◌+◌, ◌-◌, Bool, cond, List, [], ◌∷◌, ◌++◌, refl, sym, ◌∙◌, ap, take, drop, get_or, length, map, arith, eq-eqb, get_or-drop, length-drop}
use Rattle.std.proofs.lemmas.Bool.{ne_eqb}
use Rattle.std.specs.Borrow.{Bor}
use Rattle.fb_placing.specs.Resolved.{on_first, path_names}

drop_all : (n : ℕ) → drop {A = ℕ} n [] ≡ []
drop_all zero = refl
drop_all (suc n) = refl

drop_twice : (xs : List ℕ) (s n : ℕ) → drop n (drop s xs) ≡ drop (s + n) xs
drop_twice xs zero n = let e : n ≡ 0 + n = omega arith in ap (λ (k : ℕ). drop k xs) e
drop_twice [] (suc s) n = drop_all n ∙ sym (drop_all (suc s + n))
drop_twice (x ∷ xs) (suc s) n =
    let e : suc (s + n) ≡ suc s + n = omega arith in
    drop_twice xs s n ∙ ap (λ (k : ℕ). drop k (x ∷ xs)) e

-- there is no point from one place up to another
abbrev pub NoPoint : List ℕ → ℕ → ℕ → Type 0
NoPoint path start end = (k : ℕ) → start ≤ k → k < end → get_or path k 0 ≡ 46 → ⊥

-- a name up to a point
cut_here : (xs : List ℕ) (n : ℕ) → n < length xs → NoPoint xs 0 n → get_or xs n 0 ≡ 46 → path_names xs ≡ take n xs ∷ path_names (drop (suc n) xs)
unfolding path_names
cut_here [] n lt none point = absurd (omega arith)
cut_here (b ∷ bs) zero lt none point = ap (λ (t : Bool). cond t ([] ∷ path_names bs) (on_first b (path_names bs))) (eq-eqb b 46 point)
cut_here (b ∷ bs) (suc n) lt none point =
    ap (λ (t : Bool). cond t ([] ∷ path_names bs) (on_first b (path_names bs))) (ne_eqb b 46 (none 0 (omega arith) (omega arith)))
    ∙ ap (on_first b) (cut_here bs n (omega arith) (λ k le below. none (suc k) (omega arith) (omega arith)) point)

-- a name with no point behind it
last_here : (xs : List ℕ) → NoPoint xs 0 (length xs) → path_names xs ≡ xs ∷ []
unfolding path_names
last_here [] none = refl
last_here (b ∷ bs) none =
    ap (λ (t : Bool). cond t ([] ∷ path_names bs) (on_first b (path_names bs))) (ne_eqb b 46 (none 0 (omega arith) (omega arith)))
    ∙ ap (on_first b) (last_here bs (λ k le below. none (suc k) (omega arith) (omega arith)))

no_point_behind : (path : List ℕ) (start end : ℕ) → start ≤ end → NoPoint path start end → NoPoint (drop start path) 0 (end - start)
no_point_behind path start end le none k low below point =
    none (start + k) (omega arith) (omega arith) (sym (get_or-drop start path k 0) ∙ point)

-- the name from one place up to a point
pub name_cut : (path : List ℕ) (start i : ℕ) → start ≤ i → i < length path → NoPoint path start i → get_or path i 0 ≡ 46 → path_names (drop start path) ≡ take (i - start) (drop start path) ∷ path_names (drop (i + 1) path)
name_cut path start i le lt none point =
    let n = i - start in
    let inside : n < length (drop start path) = omega (arith, length-drop start path) in
    let whole : start + n ≡ i = omega arith in
    let next : start + suc n ≡ i + 1 = omega arith in
    let here : get_or (drop start path) n 0 ≡ 46 = get_or-drop start path n 0 ∙ ap (λ (k : ℕ). get_or path k 0) whole ∙ point in
    cut_here (drop start path) n inside (no_point_behind path start i le none) here
    ∙ ap (λ (l : List ℕ). take n (drop start path) ∷ path_names l) (drop_twice path start (suc n) ∙ ap (λ (k : ℕ). drop k path) next)

-- the name from one place to the end
pub name_last : (path : List ℕ) (start : ℕ) → start ≤ length path → NoPoint path start (length path) → path_names (drop start path) ≡ drop start path ∷ []
name_last path start le none =
    last_here (drop start path)
    (let same : length path - start ≡ length (drop start path) = omega (arith, length-drop start path) in
    λ k low below. no_point_behind path start (length path) le none k low (omega (arith, same)))

-- one name more
pub names_more : (items : List (Bor (List ℕ))) (item : Bor (List ℕ)) (whole first : List (List ℕ)) (name : List ℕ) (rest : List (List ℕ)) → whole ≡ map (λ n. n.now) items ++ first → first ≡ name ∷ rest → item.now ≡ name → whole ≡ map (λ n. n.now) (items ++ item ∷ []) ++ rest
names_more [] item whole first name rest is cut named = is ∙ cut ∙ ap (λ (n : List ℕ). n ∷ rest) (sym named)
names_more (x ∷ items) item whole first name rest is cut named =
    is ∙ ap (λ (l : List (List ℕ)). x.now ∷ l) (names_more items item (map (λ n. n.now) items ++ first) first name rest refl cut named)
