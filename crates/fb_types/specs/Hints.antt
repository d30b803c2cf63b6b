-- Nets that are kept from before.
use Rattle.std.specs.{Prelude.{ℕ, Bool, true, false, not, ◌||◌, List, Option, Some, None}, BTreeMap.{is_at}, FinMap.{retain_keys}}
use Rattle.fb_tree.specs.Text.Order.{name_cmp}
use Rattle.fb_iface.specs.Library.View.{Sources}
use Rattle.fb_network.specs.PlainFlat.{PlainFlat}
use Rattle.fb_types.specs.Net.{PlainNet, blocked, recursive, too_large, flat_net}

-- the flat network of a net that has one
abbrev pub flat_of_net : PlainNet → Option PlainFlat
flat_of_net (blocked names) = None
flat_of_net (recursive names) = None
flat_of_net too_large = None
flat_of_net (flat_net flat) = Some flat

abbrev pub flat_of_hint : Option PlainNet → Option PlainFlat
flat_of_hint None = None
flat_of_hint (Some net) = flat_of_net net

-- the net of a unit that is not blocked, and of which none of what it rests on reaches itself
abbrev pub is_whole_net : PlainNet → Bool
is_whole_net (blocked names) = false
is_whole_net (recursive names) = false
is_whole_net too_large = true
is_whole_net (flat_net flat) = true

abbrev pub is_whole_hint : Option PlainNet → Bool
is_whole_hint None = false
is_whole_hint (Some net) = is_whole_net net

-- whether the text of the name must be read for the unit: its kept net, if there is one, does not show that it is whole, or the
-- name is the unit
abbrev pub is_uncached : (List ℕ → Option PlainNet) → List ℕ → List ℕ → Bool
is_uncached hints unit name = is_at (name_cmp unit) name || not (is_whole_hint (hints name))

-- the texts that must be read
abbrev pub uncached_of : (List ℕ → Option PlainNet) → Sources → List ℕ → Sources
uncached_of hints sources unit = retain_keys sources (is_uncached hints unit)
