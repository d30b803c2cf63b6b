-- What a unit rests on, through any number of mentions.
use Rattle.std.specs.Prelude.{ℕ, List, Contains}
use Rattle.fb_library.specs.View.{Sources, mentions_at, parts_at}

-- u rests on v: v is u, or some mention of u rests on v
pub data Rests (sources : Sources) : List ℕ → List ℕ → Type 0 where
  itself : {u : List ℕ} → Rests sources u u
  through : {u w v : List ℕ} → Contains (mentions_at sources u) w → Rests sources w v → Rests sources u v

-- the same by parts only: v is u, or some part of u rests on v
pub data PartRests (sources : Sources) : List ℕ → List ℕ → Type 0 where
  on_itself : {u : List ℕ} → PartRests sources u u
  through_part : {u w v : List ℕ} → Contains (parts_at sources u) w → PartRests sources w v → PartRests sources u v
