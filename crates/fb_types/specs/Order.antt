-- Lists in which inner types come first.
use Rattle.std.specs.Prelude.{ℕ, ◌<◌, List, [], length, take, slice_index_or, Contains}
use Rattle.fb_iface.specs.Library.View.{Sources, parts_at}

-- each name comes after all its parts, and no name comes twice
pub record IsOrdered (sources : Sources) (order : List (List ℕ)) : Type 0 where
  pub inner_first : (k : ℕ) → k < length order → (w : List ℕ) → Contains (parts_at sources (slice_index_or order k [])) w → Contains (take k order) w
  pub once : (k : ℕ) → k < length order → ¬ Contains (take k order) (slice_index_or order k [])
