-- What units carry, and what is near a unit.
use Rattle.std.specs.{Prelude.{◌≡◌, ℕ, true, List, [], ◌∷◌, ◌++◌, if◌then◌else◌, Option, Contains}, List.{flat_map}, FinMap.{entries}}
use Rattle.fb_parse.specs.{Text.Order.{names_in_order}, Tree.Tree.{DeclTree}}
use Rattle.fb_library.specs.{View.{Sources, tree_of, parts_at, values_in, values_at, is_structure_at}, Opened.{led_from}}

-- u carries v: v is a value mention of u, or of a structure that u carries
pub data Carries (sources : Sources) : List ℕ → List ℕ → Type 0 where
  directly : {u v : List ℕ} → Contains (values_at sources u) v → Carries sources u v
  onward : {u w v : List ℕ} → Carries sources u w → is_structure_at sources w ≡ true → Contains (values_at sources w) v → Carries sources u v

-- some of these units carries v
abbrev pub SomeCarries : Sources → List (List ℕ) → List ℕ → Type 0
SomeCarries sources units v = (u : List ℕ) × Contains units u × Carries sources u v

-- v is near u: it is u or a part of it, or one of these carries it
pub data IsNear (sources : Sources) (u : List ℕ) : List ℕ → Type 0 where
  own : IsNear sources u u
  part : {p : List ℕ} → Contains (parts_at sources u) p → IsNear sources u p
  carried : {v : List ℕ} → Carries sources u v → IsNear sources u v
  carried_by_part : {p v : List ℕ} → Contains (parts_at sources u) p → Carries sources p v → IsNear sources u v

-- the value mentions of a structure; any other unit gives none
abbrev pub carried_on : Sources → List ℕ → List (List ℕ)
carried_on sources name = if is_structure_at sources name then values_at sources name else []

-- what the trees of all units mention, of one sort or both
abbrev pub in_all_trees : (Option DeclTree → List (List ℕ)) → Sources → List (List ℕ)
in_all_trees sort sources = flat_map (λ e. sort (tree_of e.1)) (entries sources)

-- all that some of these units carry, in order, each once
unfoldable pub carried_of : Sources → List (List ℕ) → List (List ℕ)
carried_of sources units = led_from (in_all_trees values_in sources) (carried_on sources) (flat_map (values_at sources) units)

-- the unit and its parts
abbrev pub bases_at : Sources → List ℕ → List (List ℕ)
bases_at sources unit = parts_at sources unit ++ unit ∷ []

-- the unit, its parts, and what these carry, in order, each once
unfoldable pub near_of : Sources → List ℕ → List (List ℕ)
near_of sources unit = names_in_order (carried_of sources (bases_at sources unit) ++ bases_at sources unit)
