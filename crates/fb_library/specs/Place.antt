-- The place of a name among names in order, or where to insert it.
use Rattle.std.specs.{Prelude.{◌≡◌, ℕ, ◌<◌, ◌≤◌, List, [], length, slice_index_or}, declared.cmp.Ordering.TheVariants.{Less}}
use Rattle.fb_parse.specs.Text.Order.{name_cmp}

pub record IsAt (names : List (List ℕ)) (name : List ℕ) (i : ℕ) : Type 0 where
  pub in_range : i < length names
  pub named : slice_index_or names i [] ≡ name

-- the names before the place are less, and those from it on are greater
pub record IsGapFor (names : List (List ℕ)) (name : List ℕ) (i : ℕ) : Type 0 where
  pub in_range : i ≤ length names
  pub below : (j : ℕ) → j < i → name_cmp (slice_index_or names j []) name ≡ Less
  pub above : (j : ℕ) → i ≤ j → j < length names → name_cmp name (slice_index_or names j []) ≡ Less
