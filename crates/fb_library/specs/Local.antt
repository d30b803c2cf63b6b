-- What near and far are, and what they depend on.
use Rattle.std.specs.{Prelude.{◌≡◌, ℕ, List, Contains, ◌↔◌}, FinMap.{get}, List.Sorted.{IsStrictlySortedBy}}
use Rattle.fb_parse.specs.Text.Order.{name_cmp}
use Rattle.fb_library.specs.{View.{Sources}, Near.{SomeCarries, IsNear, carried_of, near_of}, Rests.{Rests}}

-- under each of the names both have the same text, or none
abbrev pub Agree : List (List ℕ) → Sources → Sources → Type 0
Agree names a b = (name : List ℕ) → Contains names name → get a name ≡ get b name

-- both have the same text, or none, under each name that the unit rests on
abbrev pub AgreeFar : List ℕ → Sources → Sources → Type 0
AgreeFar unit a b = (name : List ℕ) → Rests a unit name → get a name ≡ get b name

-- the list of what some units carry is in order, each name once, and has these names and no others
abbrev pub CarriedIsAll : Type 0
CarriedIsAll =
    (sources : Sources) (units : List (List ℕ))
    → IsStrictlySortedBy name_cmp (carried_of sources units) × ((v : List ℕ) → Contains (carried_of sources units) v ↔ SomeCarries sources units v)

-- so is the list of what is near a unit
abbrev pub NearIsAll : Type 0
NearIsAll =
    (sources : Sources) (unit : List ℕ) → IsStrictlySortedBy name_cmp (near_of sources unit) × ((v : List ℕ) → Contains (near_of sources unit) v ↔ IsNear sources unit v)

-- what some units carry depends only on the texts of these and of what they carry
abbrev pub CarriedIsLocal : Type 0
CarriedIsLocal = (a b : Sources) (units : List (List ℕ)) → Agree units a b → Agree (carried_of a units) a b → carried_of a units ≡ carried_of b units

-- the names near a unit depend only on the texts under these names
abbrev pub NearIsLocal : Type 0
NearIsLocal = (a b : Sources) (unit : List ℕ) → Agree (near_of a unit) a b → near_of a unit ≡ near_of b unit

-- what a unit rests on depends only on the texts that it rests on
abbrev pub FarIsLocal : Type 0
FarIsLocal = (a b : Sources) (unit : List ℕ) → AgreeFar unit a b → (name : List ℕ) → Rests a unit name ↔ Rests b unit name

-- what is known of the list that a unit rests on: it is in order, each name once, and has these names and no others
abbrev pub IsFar : Sources → List ℕ → List (List ℕ) → Type 0
IsFar sources unit names = IsStrictlySortedBy name_cmp names × ((name : List ℕ) → Contains names name ↔ Rests sources unit name)

-- there is one such list
abbrev pub FarIsOneList : Type 0
FarIsOneList = (sources : Sources) (unit : List ℕ) (names others : List (List ℕ)) → IsFar sources unit names → IsFar sources unit others → names ≡ others
