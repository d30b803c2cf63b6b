-- Units whose instances are counted.
use Rattle.std.specs.{Prelude.{ℕ, Bool, List}, FinMap.{retain_keys}}
use Rattle.fb_iface.specs.Library.View.{Sources, tree_at}
use Rattle.fb_types.specs.Units.{has_net_in}

-- whether the name is that of a subapplication or a system
abbrev pub is_holder : Sources → List ℕ → Bool
is_holder sources name = has_net_in (tree_at sources name)

-- the texts of subapplications and systems
abbrev pub holders_of : Sources → Sources
holders_of sources = retain_keys sources (is_holder sources)
