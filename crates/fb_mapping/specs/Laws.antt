-- Laws of placements.
use Rattle.std.specs.Prelude.{ℕ, ◌≡◌, List}
use Rattle.fb_flatten.specs.{Library.View.{Sources}, Library.Local.{AgreeFar}}
use Rattle.fb_mapping.specs.Placed.{PlainPlaced, IsPlaced}

-- a system has one placement only
abbrev pub OnePlace : Type 0
OnePlace = (sources : Sources) (system : List ℕ) (a b : PlainPlaced) → IsPlaced sources system a → IsPlaced sources system b → a ≡ b

-- the placement of a system depends only on the texts that the system rests on
abbrev pub PlaceIsLocal : Type 0
PlaceIsLocal =
    (a b : Sources) (system : List ℕ) → AgreeFar system a b
    → (placed : PlainPlaced) → IsPlaced a system placed → IsPlaced b system placed
