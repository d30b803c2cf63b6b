-- The steps by which users are changed: which units use which names after one of them.
use Rattle.std.specs.{Prelude.{◌≡◌, ℕ, Bool, ◌&&◌, ◌||◌, not, List, if◌then◌else◌}, BTreeMap.{is_at}, BTreeSet.{BTreeSet}}
use Rattle.std.specs.BTreeSet as set
use Rattle.fb_text.specs.Order.{name_cmp}
use Rattle.fb_library.specs.Seen.{has_name}
use Rattle.fb_index.specs.Users.{UsersByName, users_of, uses}

-- whether a name is one of these and is not in the set
abbrev pub is_only_in : List (List ℕ) → BTreeSet (List ℕ) → List ℕ → Bool
is_only_in names others name = has_name names name && not (set.contains name_cmp others name)

-- these units are under the name, and those under each other name are as before
abbrev pub IsPutUnder : UsersByName → List ℕ → List (List ℕ) → UsersByName → Type 0
IsPutUnder old name units new = (other : List ℕ) → users_of new other ≡ (if is_at (name_cmp name) other then units else users_of old other)

-- the unit uses these names too, and what else is used is as before
abbrev pub HasJoined : UsersByName → List ℕ → (List ℕ → Bool) → UsersByName → Type 0
HasJoined old unit names new = (other at : List ℕ) → uses new other at ≡ (uses old other at || (is_at (name_cmp unit) other && names at))

-- the unit uses none of these names, and what else is used is as before
abbrev pub HasLeft : UsersByName → List ℕ → (List ℕ → Bool) → UsersByName → Type 0
HasLeft old unit names new = (other at : List ℕ) → uses new other at ≡ (uses old other at && not (is_at (name_cmp unit) other && names at))

-- the same units and one
abbrev pub AreWith : List (List ℕ) → List ℕ → List (List ℕ) → Type 0
AreWith units unit more = (other : List ℕ) → has_name more other ≡ (has_name units other || is_at (name_cmp unit) other)

-- the same units but one
abbrev pub AreWithout : List (List ℕ) → List ℕ → List (List ℕ) → Type 0
AreWithout units unit others = (other : List ℕ) → has_name others other ≡ (has_name units other && not (is_at (name_cmp unit) other))
