-- What a type reaches by one or more parts: types of instances, plugs and sockets. Types of values make no recursion.
use Rattle.std.specs.Prelude.{ℕ, List, [], ◌∷◌, Contains}
use Rattle.fb_iface.specs.{Library.View.{Sources, parts_at}, Library.Rests.{Rests, PartRests}}

-- v is a part of u, or some part of u reaches v
pub data Reaches (sources : Sources) : List ℕ → List ℕ → Type 0 where
  directly : {u v : List ℕ} → Contains (parts_at sources u) v → Reaches sources u v
  onward : {u w v : List ℕ} → Contains (parts_at sources u) w → Reaches sources w v → Reaches sources u v

-- the type reaches itself
abbrev pub IsRecursive : Sources → List ℕ → Type 0
IsRecursive sources name = Reaches sources name name

-- some name that the unit rests on, by mentions of both sorts, reaches itself
abbrev pub RestsOnRecursive : Sources → List ℕ → Type 0
RestsOnRecursive sources unit = (name : List ℕ) × (Rests sources unit name × IsRecursive sources name)

-- some name that the unit rests on by parts only reaches itself
abbrev pub PartRestsOnRecursive : Sources → List ℕ → Type 0
PartRestsOnRecursive sources unit = (name : List ℕ) × (PartRests sources unit name × IsRecursive sources name)

-- one of the names rests on this one by parts
abbrev pub SomePartRests : Sources → List (List ℕ) → List ℕ → Type 0
SomePartRests sources names v = (u : List ℕ) × (Contains names u × PartRests sources u v)

-- one of the names rests by parts on a name that reaches itself
abbrev pub SomePartRestsOnRecursive : Sources → List (List ℕ) → Type 0
SomePartRestsOnRecursive sources names = (v : List ℕ) × (SomePartRests sources names v × IsRecursive sources v)

-- the names of a list that reach themselves, in the same order
pub data RecursivePart (sources : Sources) : List (List ℕ) → List (List ℕ) → Type 0 where
  none : RecursivePart sources [] []
  keeps : {name : List ℕ} {names found : List (List ℕ)} → IsRecursive sources name → RecursivePart sources names found → RecursivePart sources (name ∷ names) (name ∷ found)
  skips : {name : List ℕ} {names found : List (List ℕ)} → ¬ IsRecursive sources name → RecursivePart sources names found → RecursivePart sources (name ∷ names) found
