-- The order of names, and lists in order, each item once.
use Rattle.std.specs.{Prelude.{ℕ, List, [], ◌∷◌}, Ordering.{nat_cmp}, Cmp.Lexicographic.{slice_cmp}, BTreeSet.{insert_key}, declared.cmp.Ordering.{Ordering}}

-- the order of names, by their bytes
abbrev pub name_cmp : List ℕ → List ℕ → Ordering
name_cmp = slice_cmp nat_cmp

-- the items of a list in the order of `cmp`, each once
abbrev pub in_order : {K : Type 0} → (K → K → Ordering) → List K → List K
in_order cmp [] = []
in_order cmp (x ∷ xs) = insert_key cmp (in_order cmp xs) x

-- the names in their order, each once
abbrev pub names_in_order : List (List ℕ) → List (List ℕ)
names_in_order names = in_order name_cmp names
