-- Paths in two parts.
use Rattle.std.specs.Prelude.{ℕ, ◌≡◌, ◌==◌, false, ⊤, List, [], ◌∷◌, ◌++◌, Option, Some, None}
use Rattle.fb_network.specs.Prefixes.{nearest}

-- there is no point among these bytes
abbrev pub HasNoPoint : List ℕ → Type 0
HasNoPoint [] = ⊤
HasNoPoint (b ∷ bs) = ((b == 46) ≡ false) × HasNoPoint bs

-- the path up to its last point, and the name after it
abbrev pub IsSplit : List ℕ → List ℕ → List ℕ → Type 0
IsSplit path outer name = (path ≡ outer ++ 46 ∷ name) × HasNoPoint name

-- No prefix of a path that has something has anything: if a path in two parts has something, the first part has nothing, and neither has
-- any prefix of it.
abbrev pub AreApart : {X : Type 0} → (List ℕ → Option X) → Type 0
AreApart {X = X} at = (outer name : List ℕ) (x : X) → HasNoPoint name → at (outer ++ 46 ∷ name) ≡ Some x → nearest at outer ≡ None

-- the path is inside what has the other path
abbrev pub IsInside : List ℕ → List ℕ → Type 0
IsInside path outer = (rest : List ℕ) × (path ≡ outer ++ 46 ∷ rest)
