-- What is indexed of each unit.
use Rattle.std.specs.{Prelude.{◌≡◌, ℕ, Bool, true, false, List, [], Option, is_some, unwrap_or}, Map.{lookup}, BTreeMap.{is_at}}
use Rattle.fb_text.specs.Order.{name_cmp}
use Rattle.fb_tree.specs.Mentions.{Mentioned, nothing_mentioned}
use Rattle.fb_index.specs.Users.{UsersByName, uses, UsesThese}

-- who has a name as a part, who has it as the type of a value, and of each indexed unit whether it is a structure
pub record Indexed : Type 0 where
  pub parts : UsersByName
  pub of_values : UsersByName
  pub units : List (List ℕ × Bool)

abbrev pub nothing_indexed : Indexed
nothing_indexed = record { parts = []; of_values = []; units = [] }

abbrev pub mark_of : List (List ℕ × Bool) → List ℕ → Option Bool
mark_of units unit = lookup (is_at (name_cmp unit)) units

abbrev pub is_indexed : Indexed → List ℕ → Bool
is_indexed it unit = is_some (mark_of it.units unit)

abbrev pub is_structure_in : Indexed → List ℕ → Bool
is_structure_in it unit = unwrap_or (mark_of it.units unit) false

-- this is what is indexed of the unit
pub record IsIndexedAs (it : Indexed) (unit : List ℕ) (m : Mentioned) : Type 0 where
  pub parts : UsesThese it.parts unit m.parts
  pub of_values : UsesThese it.of_values unit m.of_values
  pub structure : is_structure_in it unit ≡ m.is_structure

-- the same is indexed of the unit in both
pub record SameUnit (a b : Indexed) (unit : List ℕ) : Type 0 where
  pub parts : (name : List ℕ) → uses b.parts unit name ≡ uses a.parts unit name
  pub of_values : (name : List ℕ) → uses b.of_values unit name ≡ uses a.of_values unit name
  pub mark : mark_of b.units unit ≡ mark_of a.units unit

-- the unit is indexed with these mentions, and each other one as before
pub record IsReplaced (old : Indexed) (unit : List ℕ) (m : Mentioned) (new : Indexed) : Type 0 where
  pub own : IsIndexedAs new unit m
  pub there : is_indexed new unit ≡ true
  pub others : (other : List ℕ) → is_at (name_cmp unit) other ≡ false → SameUnit old new other

-- nothing is indexed of the unit any more, and each other one is indexed as before
pub record IsRemoved (old : Indexed) (unit : List ℕ) (new : Indexed) : Type 0 where
  pub own : IsIndexedAs new unit nothing_mentioned
  pub gone : is_indexed new unit ≡ false
  pub others : (other : List ℕ) → is_at (name_cmp unit) other ≡ false → SameUnit old new other
