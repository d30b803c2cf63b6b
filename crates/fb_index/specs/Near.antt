-- What is near a unit and what it rests on, by what is indexed.
use Rattle.std.specs.Prelude.{◌≡◌, ℕ, Bool, true, ◌||◌, List, [], ◌++◌, if◌then◌else◌}
use Rattle.fb_library.specs.Seen.{has_name}
use Rattle.fb_index.specs.{Users.{users_of, uses}, Indexed.{Indexed, is_indexed, is_structure_in}}

-- u carries v: v is the type of a value of u, or of a structure that u carries
pub data Carries (it : Indexed) : List ℕ → List ℕ → Type 0 where
  directly : {u v : List ℕ} → uses it.of_values u v ≡ true → Carries it u v
  onward : {u w v : List ℕ} → Carries it u w → is_structure_in it w ≡ true → uses it.of_values w v ≡ true → Carries it u v

-- v is near u: it is u, if that is indexed, or a part of it, or one of these carries it
pub data IsNear (it : Indexed) : List ℕ → List ℕ → Type 0 where
  own : {u : List ℕ} → is_indexed it u ≡ true → IsNear it u u
  part : {u p : List ℕ} → uses it.parts u p ≡ true → IsNear it u p
  carried : {u v : List ℕ} → Carries it u v → IsNear it u v
  carried_by_part : {u p v : List ℕ} → uses it.parts u p ≡ true → Carries it p v → IsNear it u v

-- whether u mentions v, as a part or as the type of a value
abbrev pub mentions : Indexed → List ℕ → List ℕ → Bool
mentions it u v = uses it.parts u v || uses it.of_values u v

-- each unit that mentions a name is indexed
abbrev pub AreUnits : Indexed → Type 0
AreUnits it = (unit name : List ℕ) → mentions it unit name ≡ true → is_indexed it unit ≡ true

-- u rests on v: v is u, if that is indexed, or a mention of u, or some mention of u rests on it
pub data Reaches (it : Indexed) : List ℕ → List ℕ → Type 0 where
  itself : {u : List ℕ} → is_indexed it u ≡ true → Reaches it u u
  mention : {u v : List ℕ} → mentions it u v ≡ true → Reaches it u v
  through : {u w v : List ℕ} → mentions it u w ≡ true → Reaches it w v → Reaches it u v

-- one of these names has the property
pub record OneOf (names : List (List ℕ)) (stands : List ℕ → Type 0) : Type 0 where
  pub name : List ℕ
  pub among : has_name names name ≡ true
  pub is : stands name

abbrev pub NearSome : Indexed → List ℕ → List (List ℕ) → Type 0
NearSome it unit names = OneOf names (IsNear it unit)

abbrev pub ReachesSome : Indexed → List ℕ → List (List ℕ) → Type 0
ReachesSome it unit names = OneOf names (Reaches it unit)

abbrev pub CarriesSome : Indexed → List ℕ → List (List ℕ) → Type 0
CarriesSome it unit names = OneOf names (Carries it unit)

-- the units that mention the name
abbrev pub mentioning : Indexed → List ℕ → List (List ℕ)
mentioning it name = users_of it.parts name ++ users_of it.of_values name

-- the units that also carry what the name carries: its users, if it is a structure
abbrev pub carrying_on : Indexed → List ℕ → List (List ℕ)
carrying_on it name = if is_structure_in it name then users_of it.of_values name else []
