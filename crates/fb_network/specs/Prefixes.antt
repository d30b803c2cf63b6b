-- Prefixes of a path.
use Rattle.std.specs.{Prelude.{ℕ, ◌≡◌, ◌<◌, ◌⊎◌, ◌==◌, if◌then◌else◌, List, [], ◌∷◌, ◌++◌, length, map, Option, Some, None}, Option.{option_or}}

-- the first path is the other one, or a prefix of it by whole names
abbrev pub IsPrefix : List ℕ → List ℕ → Type 0
IsPrefix prefix path = (path ≡ prefix) ⊎ ((rest : List ℕ) × (path ≡ prefix ++ 46 ∷ rest))

-- the prefixes of a path, the shortest first and the path itself last
unfoldable pub prefixes : List ℕ → List (List ℕ)
prefixes [] = [] ∷ []
prefixes (b ∷ bs) = (if b == 46 then [] ∷ [] else []) ++ map (λ prefix. b ∷ prefix) (prefixes bs)

-- the last of these that is there
abbrev pub last_there : {X : Type 0} → List (Option X) → Option X
last_there [] = None
last_there (o ∷ os) = option_or (last_there os) o

-- what the longest prefix of the path has, of those that have something
unfoldable pub nearest : {X : Type 0} → (List ℕ → Option X) → List ℕ → Option X
nearest at path = last_there (map at (prefixes path))

-- the longest prefix of the path that has something has this; if there is nothing, no prefix has anything
abbrev pub IsNearest : {X : Type 0} → (List ℕ → Option X) → List ℕ → Option X → Type 0
IsNearest at path None = (prefix : List ℕ) → IsPrefix prefix path → at prefix ≡ None
IsNearest at path (Some x) =
    (prefix : List ℕ) × IsPrefix prefix path × (at prefix ≡ Some x)
    × ((other : List ℕ) → IsPrefix other path → length prefix < length other → at other ≡ None)
