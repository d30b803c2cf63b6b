-- The order of pairs of names.
use Rattle.std.specs.{Prelude.{ℕ, List}, Ordering.{ordering_then}, declared.cmp.Ordering.{Ordering}}
use Rattle.fb_tree.specs.Text.Order.{name_cmp}

-- by the first names, then by the second
abbrev pub pair_cmp : List ℕ × List ℕ → List ℕ × List ℕ → Ordering
pair_cmp a b = ordering_then (name_cmp a.0 b.0) (name_cmp a.1 b.1)
