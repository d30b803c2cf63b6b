-- Which units use which names: under each name its users.
use Rattle.std.specs.{Prelude.{◌≡◌, ℕ, Bool, false, List, [], unwrap_or}, Map.{lookup}, BTreeMap.{is_at}}
use Rattle.fb_text.specs.Order.{name_cmp}
use Rattle.fb_library.specs.Seen.{has_name}

-- under each name the units that use it
abbrev pub UsersByName : Type 0
UsersByName = List (List ℕ × List (List ℕ))

abbrev pub users_of : UsersByName → List ℕ → List (List ℕ)
users_of users name = unwrap_or (lookup (is_at (name_cmp name)) users) []

-- whether the unit uses the name
abbrev pub uses : UsersByName → List ℕ → List ℕ → Bool
uses users unit name = has_name (users_of users name) unit

-- the unit uses these names and no others
abbrev pub UsesThese : UsersByName → List ℕ → List (List ℕ) → Type 0
UsesThese users unit names = (name : List ℕ) → uses users unit name ≡ has_name names name

-- the unit uses these names now, and each other one uses what it used
pub record NowUses (old : UsersByName) (unit : List ℕ) (names : List (List ℕ)) (new : UsersByName) : Type 0 where
  pub own : UsesThese new unit names
  pub others : (other name : List ℕ) → is_at (name_cmp unit) other ≡ false → uses new other name ≡ uses old other name
