-- What stands inside a path that has nothing inside.
use Rattle.std.proofs.{Common.{ℕ, ◌≡◌, ◌==◌, if◌then◌else◌, List, [], ◌∷◌, ◌++◌, Option, None, map, refl, sym, ap, ◌∙◌, append_assoc}, lemmas.List.{map-append}}
use Rattle.std.specs.Option.{option_or}
use Rattle.fb_network.specs.Prefixes.{prefixes, last_there, nearest}

-- the prefixes of what stands inside a path: those of the path, and then those inside
pub prefixes_inside : (path inner : List ℕ) → prefixes (path ++ 46 ∷ inner) ≡ prefixes path ++ map (λ (prefix : List ℕ). path ++ 46 ∷ prefix) (prefixes inner)
unfolding prefixes
prefixes_inside [] inner = refl
prefixes_inside (b ∷ path) inner =
    let first : List (List ℕ) = if b == 46 then [] ∷ [] else [] in
    ap (λ (l : List (List ℕ)). first ++ map (λ (prefix : List ℕ). b ∷ prefix) l) (prefixes_inside path inner)
    ∙ ap (λ (l : List (List ℕ)). first ++ l) (map-append (λ (prefix : List ℕ). b ∷ prefix) (prefixes path) (map (λ (prefix : List ℕ). path ++ 46 ∷ prefix) (prefixes inner)) ∙ ap (λ (l : List (List ℕ)). map (λ (prefix : List ℕ). b ∷ prefix) (prefixes path) ++ l) (both b (prefixes inner)))
    ∙ sym (append_assoc first (map (λ (prefix : List ℕ). b ∷ prefix) (prefixes path)) (map (λ (prefix : List ℕ). b ∷ path ++ 46 ∷ prefix) (prefixes inner)))
  where
    both : (c : ℕ) (fs : List (List ℕ)) → map (λ (prefix : List ℕ). c ∷ prefix) (map (λ (prefix : List ℕ). path ++ 46 ∷ prefix) fs) ≡ map (λ (prefix : List ℕ). c ∷ path ++ 46 ∷ prefix) fs
    both c [] = refl
    both c (f ∷ fs) = ap (λ (l : List (List ℕ)). (c ∷ path ++ 46 ∷ f) ∷ l) (both c fs)

-- nothing is there behind what is there
last_before : {X : Type 0} (xs ys : List (Option X)) → last_there ys ≡ None → last_there (xs ++ ys) ≡ last_there xs
last_before [] ys none = none
last_before {X = X} (x ∷ xs) ys none = ap (λ (o : Option X). option_or o x) (last_before xs ys none)

nothing_there : {X : Type 0} (at : List ℕ → Option X) (path : List ℕ) → ((inner : List ℕ) → at (path ++ 46 ∷ inner) ≡ None) → (fs : List (List ℕ)) → last_there (map at (map (λ (prefix : List ℕ). path ++ 46 ∷ prefix) fs)) ≡ None
nothing_there at path none [] = refl
nothing_there at path none (f ∷ fs) = λ i. option_or (nothing_there at path none fs i) (none f i)

-- where nothing stands inside a path for anything, all that is inside is nearest to what the path is
pub nearest_inside : {X : Type 0} (at : List ℕ → Option X) (path inner : List ℕ) → ((rest : List ℕ) → at (path ++ 46 ∷ rest) ≡ None) → nearest at (path ++ 46 ∷ inner) ≡ nearest at path
unfolding nearest
nearest_inside at path inner none =
    let inside = map (λ (prefix : List ℕ). path ++ 46 ∷ prefix) (prefixes inner) in
    ap (λ (l : List (List ℕ)). last_there (map at l)) (prefixes_inside path inner)
    ∙ ap last_there (map-append at (prefixes path) inside)
    ∙ last_before (map at (prefixes path)) (map at inside) (nothing_there at path none (prefixes inner))
