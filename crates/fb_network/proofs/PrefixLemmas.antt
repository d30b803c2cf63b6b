-- What stands in front of a path, place by place.
use Rattle.std.proofs.Common.{ℕ, zero, suc, ◌≡◌, ◌==◌, true, false, cond, List, [], ◌∷◌, ◌++◌, Option, Some, None, refl, sym, ◌∙◌, ap, take, get_or, length, map, append_assoc, append-nil, arith}
use Rattle.std.proofs.lemmas.List.{map-append}
use Rattle.std.specs.Option.{option_or}
use Rattle.fb_network.specs.Prefixes.{prefixes, last_there, nearest}

-- the prefix that ends at a point
abbrev pub cut_at : List ℕ → ℕ → List (List ℕ)
cut_at path k = cond (get_or path k 0 == 46) (take k path ∷ []) []

-- the prefixes that end at points before a place
abbrev pub cuts_below : List ℕ → ℕ → List (List ℕ)
cuts_below path zero = []
cuts_below path (suc k) = cuts_below path k ++ cut_at path k

cut_later : (b : ℕ) (bs : List ℕ) (k : ℕ) → cut_at (b ∷ bs) (suc k) ≡ map (λ prefix. b ∷ prefix) (cut_at bs k)
cut_later b bs k = grind arith

cuts_later : (b : ℕ) (bs : List ℕ) (k : ℕ) → cuts_below (b ∷ bs) (suc k) ≡ cut_at (b ∷ bs) 0 ++ map (λ prefix. b ∷ prefix) (cuts_below bs k)
cuts_later b bs zero = sym (append-nil (cut_at (b ∷ bs) 0))
cuts_later b bs (suc k) =
    ap (λ (l : List (List ℕ)). l ++ cut_at (b ∷ bs) (suc k)) (cuts_later b bs k)
    ∙ ap (λ (l : List (List ℕ)). (cut_at (b ∷ bs) 0 ++ map (λ prefix. b ∷ prefix) (cuts_below bs k)) ++ l) (cut_later b bs k)
    ∙ append_assoc (cut_at (b ∷ bs) 0) (map (λ prefix. b ∷ prefix) (cuts_below bs k)) (map (λ prefix. b ∷ prefix) (cut_at bs k))
    ∙ ap (λ (l : List (List ℕ)). cut_at (b ∷ bs) 0 ++ l) (sym (map-append (λ prefix. b ∷ prefix) (cuts_below bs k) (cut_at bs k)))

pub prefixes_are : (path : List ℕ) → prefixes path ≡ cuts_below path (length path) ++ path ∷ []
unfolding prefixes
prefixes_are [] = refl
prefixes_are (b ∷ bs) =
    ap (λ (l : List (List ℕ)). cut_at (b ∷ bs) 0 ++ map (λ prefix. b ∷ prefix) l) (prefixes_are bs)
    ∙ ap (λ (l : List (List ℕ)). cut_at (b ∷ bs) 0 ++ l) (map-append (λ prefix. b ∷ prefix) (cuts_below bs (length bs)) (bs ∷ []))
    ∙ sym (append_assoc (cut_at (b ∷ bs) 0) (map (λ prefix. b ∷ prefix) (cuts_below bs (length bs))) ((b ∷ bs) ∷ []))
    ∙ ap (λ (l : List (List ℕ)). l ++ (b ∷ bs) ∷ []) (sym (cuts_later b bs (length bs)))

last_there-append : {X : Type 0} (os ps : List (Option X)) → last_there (os ++ ps) ≡ option_or (last_there ps) (last_there os)
last_there-append [] ps = grind arith
last_there-append (o ∷ os) ps = grind (arith, last_there-append os ps)

-- what the longest prefix that ends at a point before a place has, of those that have something
abbrev pub nearest_below : {X : Type 0} → (List ℕ → Option X) → List ℕ → ℕ → Option X
nearest_below at path k = last_there (map at (cuts_below path k))

pub nearest_is : {X : Type 0} (at : List ℕ → Option X) (path : List ℕ) → nearest at path ≡ option_or (at path) (nearest_below at path (length path))
unfolding nearest
nearest_is at path =
    ap (λ (l : List (List ℕ)). last_there (map at l)) (prefixes_are path)
    ∙ ap last_there (map-append at (cuts_below path (length path)) (path ∷ []))
    ∙ last_there-append (map at (cuts_below path (length path))) (at path ∷ [])

-- the path itself has something
pub nearest_here : {X : Type 0} (at : List ℕ → Option X) (path : List ℕ) (x : X) → at path ≡ Some x → nearest at path ≡ Some x
nearest_here at path x e = nearest_is at path ∙ ap (λ (o : Option _). option_or o (nearest_below at path (length path))) e

-- the path itself has nothing
pub nearest_in_prefix : {X : Type 0} (at : List ℕ → Option X) (path : List ℕ) → at path ≡ None → nearest at path ≡ nearest_below at path (length path)
nearest_in_prefix at path e = nearest_is at path ∙ ap (λ (o : Option _). option_or o (nearest_below at path (length path))) e

below_step : {X : Type 0} (at : List ℕ → Option X) (path : List ℕ) (k : ℕ) → nearest_below at path (suc k) ≡ option_or (last_there (map at (cut_at path k))) (nearest_below at path k)
below_step at path k =
    ap last_there (map-append at (cuts_below path k) (cut_at path k)) ∙ last_there-append (map at (cuts_below path k)) (map at (cut_at path k))

-- no prefix ends here
pub below_no_point : {X : Type 0} (at : List ℕ → Option X) (path : List ℕ) (k : ℕ) → (get_or path k 0 == 46) ≡ false → nearest_below at path (suc k) ≡ nearest_below at path k
below_no_point at path k e = grind (arith, below_step at path k)

-- the prefix that ends here has nothing
pub below_nothing : {X : Type 0} (at : List ℕ → Option X) (path : List ℕ) (k : ℕ) → at (take k path) ≡ None → nearest_below at path (suc k) ≡ nearest_below at path k
below_nothing at path k e = grind (arith, below_step at path k)

-- the prefix that ends here has something
pub below_here : {X : Type 0} (at : List ℕ → Option X) (path : List ℕ) (k : ℕ) (x : X) → (get_or path k 0 == 46) ≡ true → at (take k path) ≡ Some x → nearest_below at path (suc k) ≡ Some x
below_here at path k x p e = grind (arith, below_step at path k)
