-- Entries on shelves, one shelf after another. A room is read as one long shelf.
use Rattle.std.specs.{Prelude.{◌≡◌, ℕ, ◌<◌, ◌≤◌, Bool, true, false, ◌||◌, List, [], ◌∷◌, ◌++◌, length, map, slice_index_or}, List.{AllByRecursion}}
use Rattle.std.specs.{List.Sorted.{IsStrictlySortedBy}, Ordering.{is_le}, declared.cmp.Ordering.TheVariants.{Less}}
use Rattle.fb_parse.specs.Text.Order.{name_cmp}

module _ {V : Type 0} where
  abbrev pub names_of : List (List ℕ × V) → List (List ℕ)
  names_of entries = map (λ e. e.0) entries

  -- the last name of each shelf
  abbrev pub lasts_of : List (List ℕ × List (List ℕ × V)) → List (List ℕ)
  lasts_of shelves = map (λ s. s.0) shelves

  abbrev pub all_on : List (List ℕ × List (List ℕ × V)) → List (List ℕ × V)
  all_on [] = []
  all_on (s ∷ shelves) = s.1 ++ all_on shelves

  -- names rise on the shelf up to its last, and from there on
  pub record IsShelf (shelf : List ℕ × List (List ℕ × V)) (later : List (List ℕ × List (List ℕ × V))) : Type 0 where
    pub sorted : IsStrictlySortedBy name_cmp (names_of shelf.1)
    pub within : AllByRecursion (λ n. is_le (name_cmp n shelf.0) ≡ true) (names_of shelf.1)
    pub before : AllByRecursion (λ n. name_cmp shelf.0 n ≡ Less) (names_of (all_on later))
    pub rising : AllByRecursion (λ n. name_cmp shelf.0 n ≡ Less) (lasts_of later)

  abbrev pub AreShelves : List (List ℕ × List (List ℕ × V)) → Type 0
  AreShelves [] = Unit {0}
  AreShelves (s ∷ shelves) = IsShelf s shelves × AreShelves shelves

  -- shelves in order, with this number of entries
  pub record AreCounted (shelves : List (List ℕ × List (List ℕ × V))) (len : ℕ) : Type 0 where
    pub order : AreShelves shelves
    pub counted : len ≡ length (all_on shelves)

-- the shelves before this one end below the name, and this one does not
pub record IsShelfFor (lasts : List (List ℕ)) (name : List ℕ) (i : ℕ) : Type 0 where
  pub in_range : i ≤ length lasts
  pub below : (j : ℕ) → j < i → name_cmp (slice_index_or lasts j []) name ≡ Less
  pub here : i < length lasts → is_le (name_cmp name (slice_index_or lasts i [])) ≡ true

-- whether some shelf ends at the name or above it
abbrev pub reaches : List (List ℕ) → List ℕ → Bool
reaches [] name = false
reaches (last ∷ lasts) name = is_le (name_cmp name last) || reaches lasts name
