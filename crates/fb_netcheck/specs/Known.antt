-- Types that were spelled out.
use Rattle.std.specs.{Prelude.{◌≡◌, ℕ, List, Vec, Option, Some}, Ordering.{nat_cmp, ordering_then}, declared.alloc.Global.{Global}}
use Rattle.std.specs.declared.cmp.Ordering.{Ordering}
use Rattle.fb_tree.specs.Text.Order.{name_cmp}
use Rattle.fb_iface.specs.Library.View.{Sources}
use Rattle.fb_netcheck.specs.Spellings.{words_at}

-- a unit, and the start and the end of a part of its text
abbrev pub PartKey : Type 0
PartKey = List ℕ × (ℕ × ℕ)

abbrev pub part_cmp : PartKey → PartKey → Ordering
part_cmp a b = ordering_then (name_cmp a.0 b.0) (ordering_then (nat_cmp a.1.0 b.1.0) (nat_cmp a.1.1 b.1.1))

-- what is kept of a part of a text is its words
abbrev pub AreSpellings : Sources → (PartKey → Option (Vec ℕ Global)) → Type 0
AreSpellings sources kept =
    (key : PartKey) (spelling : Vec ℕ Global) → kept key ≡ Some spelling → spelling.items ≡ words_at sources key.0 (record { start = key.1.0; end = key.1.1 })
