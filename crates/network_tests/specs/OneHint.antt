-- The net that is kept of one unit, and none of others.
use Rattle.std.specs.{Prelude.{ℕ, List, Option, Some, None, if◌then◌else◌}, BTreeMap.{is_at}}
use Rattle.fb_tree.specs.Text.Order.{name_cmp}
use Rattle.fb_flatten.specs.Net.{PlainNet}

abbrev pub hint_of : List ℕ → PlainNet → List ℕ → Option PlainNet
hint_of unit net name = if is_at (name_cmp unit) name then Some net else None
