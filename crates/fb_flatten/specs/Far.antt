-- What a unit rests on, as a list.
use Rattle.std.specs.Prelude.{◌≡◌, ℕ, List, [], ◌∷◌}
use Rattle.fb_types.specs.{Library.View.{Sources, mentions_at, mentions_in, parts_at, parts_in}, Library.Near.{in_all_trees}, Library.Opened.{led_from}}
use Rattle.fb_types.specs.Library.Local.{AgreeFar, IsFar}

-- the names that the unit rests on, in order, each once
unfoldable pub far_of : Sources → List ℕ → List (List ℕ)
far_of sources unit = led_from (in_all_trees mentions_in sources) (mentions_at sources) (unit ∷ [])

-- the names that the unit rests on by parts only, in order, each once
unfoldable pub part_far_of : Sources → List ℕ → List (List ℕ)
part_far_of sources unit = led_from (in_all_trees parts_in sources) (parts_at sources) (unit ∷ [])

-- this is the one list of all that the unit rests on
abbrev pub FarIsAll : Type 0
FarIsAll = (sources : Sources) (unit : List ℕ) → IsFar sources unit (far_of sources unit)

-- this list depends only on the texts that the unit rests on
abbrev pub FarOfIsLocal : Type 0
FarOfIsLocal = (a b : Sources) (unit : List ℕ) → AgreeFar unit a b → far_of a unit ≡ far_of b unit
