-- Places as entries, and shelves as entries where those of what they hold are given.
use Rattle.std.specs.Prelude.{ℕ, List, map}
use Rattle.fb_library.specs.{Shelves.{names_of, lasts_of, all_on}, declared.placed.Placed.{Placed}, declared.shelves.Shelf.{Shelf}}

module _ {V : Type 0} where
  abbrev pub entry_of : Placed V → List ℕ × V
  entry_of it = (it.name, it.value.value)

  abbrev pub entries_of : List (Placed V) → List (List ℕ × V)
  entries_of places = map entry_of places

  abbrev pub names_in : List (Placed V) → List (List ℕ)
  names_in places = names_of (entries_of places)

module _ {V E : Type 0} (entries : E → List (List ℕ × V)) where
  abbrev pub shelf_of : Shelf E → List ℕ × List (List ℕ × V)
  shelf_of it = (it.last, entries it.entries.value)

  abbrev pub shelves_of : List (Shelf E) → List (List ℕ × List (List ℕ × V))
  shelves_of shelves = map shelf_of shelves

  abbrev pub entries_on : List (Shelf E) → List (List ℕ × V)
  entries_on shelves = all_on (shelves_of shelves)

  abbrev pub lasts_on : List (Shelf E) → List (List ℕ)
  lasts_on shelves = lasts_of (shelves_of shelves)
