-- An empty map has nothing.
use Rattle.std.proofs.Common.{ℕ, ◌≡◌, List, [], None, ap}
use Rattle.std.specs.{BTreeMap.{BTreeMap, get, is_at}, Map.{lookup}}
use Rattle.fb_tree.specs.Text.Order.{name_cmp}

pub nothing_at : {X : Type 0} (map : BTreeMap (List ℕ) X) (name : List ℕ) → map.entries ≡ [] → get name_cmp map name ≡ None
nothing_at map name empty = ap (lookup (is_at (name_cmp name))) empty
