-- What a name means in a name space, in which it may be declared more than once.
use Rattle.std.specs.{Prelude.{ℕ, Bool, List, [], ◌∷◌, ◌++◌, take, map, filter, Option, is_none, is_some, if◌then◌else◌}, List.{list_any, enumerate_from}}
use Rattle.std.specs.{Map.{lookup}, BTreeMap.{is_at}}
use Rattle.fb_tree.specs.{Text.Order.{name_cmp}, Text.declared.name.NameUse.{NameUse}}

-- whether two names are the same
abbrev pub is_same : List ℕ → List ℕ → Bool
is_same a b = is_at (name_cmp a) b

-- what a name means: its first declaration
abbrev pub stands_for : {D : Type 0} → List (List ℕ × D) → List ℕ → Option D
stands_for declarations name = lookup (λ declared. is_same declared name) declarations

-- whether one of these is the name
abbrev pub has_name : List NameUse → List ℕ → Bool
has_name names name = list_any (λ n. is_same n.name name) names

-- whether an item passes a test of those before its place and of itself
abbrev pub passes_there : {A : Type 0} → (List A → A → Bool) → List A → ℕ × A → Bool
passes_there test items placed = test (take placed.0 items) placed.1

-- the items that pass such a test, in their order
abbrev pub passing_there : {A : Type 0} → (List A → A → Bool) → List A → List A
passing_there test items = map (λ placed. placed.1) (filter (passes_there test items) (enumerate_from 0 items))

-- whether a name also occurs before its place
abbrev pub is_repeated : List NameUse → ℕ × NameUse → Bool
is_repeated names = passes_there (λ before n. has_name before n.name) names

-- second and later declarations of a name
abbrev pub repeated : List NameUse → List NameUse
repeated names = passing_there (λ before n. has_name before n.name) names

-- the first declaration of each name, in the order of the text: before its place the name means nothing
abbrev pub first_ones : {D : Type 0} → List (List ℕ × D) → List (List ℕ × D)
first_ones declarations = passing_there (λ before d. is_none (stands_for before d.0)) declarations

-- first declarations, with one more if its name is new
abbrev pub with_first : {D : Type 0} → List (List ℕ × D) → List ℕ × D → List (List ℕ × D)
with_first firsts d = if is_some (stands_for firsts d.0) then firsts else firsts ++ d ∷ []

-- first declarations, with each of these in turn
abbrev pub with_firsts : {D : Type 0} → List (List ℕ × D) → List (List ℕ × D) → List (List ℕ × D)
with_firsts firsts [] = firsts
with_firsts firsts (d ∷ ds) = with_firsts (with_first firsts d) ds
