-- What keeps a unit from having a flat network.
use Rattle.std.specs.{Prelude.{ℕ, ◌≡◌, ◌≢◌, ◌↔◌, ◌⊎◌, Bool, true, false, ◌||◌, ◌&&◌, List, [], ◌∷◌, None, is_none, Contains}, List.{list_any}, FinMap.{get}}
use Rattle.std.specs.List.Sorted.{IsStrictlySortedBy}
use Rattle.fb_types.specs.{Text.Order.{name_cmp}, Library.Seen.{has_name}, Library.View.{Sources, parts_at}, Library.Rests.{Rests}}
use Rattle.fb_types.specs.Iface.declared.fault.Fault.{Fault}
use Rattle.fb_faults.specs.Faults.{faults_of}

-- the name is a part of something that the unit rests on
abbrev pub IsPartBelow : Sources → List ℕ → List ℕ → Type 0
IsPartBelow sources unit name = (holder : List ℕ) × Rests sources unit holder × Contains (parts_at sources holder) name

-- The name is that of a unit with faults; or no unit has it, and it is a part of something that the unit rests on. The type of a value may be absent.
abbrev pub IsBlocking : Sources → List ℕ → List ℕ → Type 0
IsBlocking sources unit name = (faults_of sources name ≢ []) ⊎ ((get sources name ≡ None) × IsPartBelow sources unit name)

abbrev pub is_some_fault : List Fault → Bool
is_some_fault [] = false
is_some_fault (f ∷ fs) = true

abbrev pub is_some_name : List (List ℕ) → Bool
is_some_name [] = false
is_some_name (x ∷ xs) = true

-- whether a name blocks a unit, where `is_part` shows which names are parts of what the unit rests on
abbrev pub is_blocking : Sources → (List ℕ → Bool) → List ℕ → Bool
is_blocking sources is_part name = is_some_fault (faults_of sources name) || (is_none (get sources name) && is_part name)

-- the name is a part of one of these
abbrev pub is_part_among : Sources → List (List ℕ) → List ℕ → Bool
is_part_among sources names name = list_any (λ holder. has_name (parts_at sources holder) name) names

-- no unit has the name, or the one that has it has faults
abbrev pub is_absent_or_faulty : Sources → List ℕ → Bool
is_absent_or_faulty sources name = is_none (get sources name) || is_some_fault (faults_of sources name)

-- the names that the unit rests on and that have the property, in order, each once
pub record AreThose (sources : Sources) (unit : List ℕ) (property : List ℕ → Type 0) (names : List (List ℕ)) : Type 0 where
  pub sorted : IsStrictlySortedBy name_cmp names
  pub members : (v : List ℕ) → Contains names v ↔ (Rests sources unit v × property v)
