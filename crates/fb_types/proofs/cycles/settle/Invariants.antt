use Rattle.std.proofs.Common.{◌≡◌, ℕ, List, false, ◌||◌, if◌then◌else◌, take}
use Rattle.std.specs.Ordering.{eq_by_cmp}
use Rattle.fb_tree.specs.Text.Order.{name_cmp}
use Rattle.fb_iface.specs.Library.Seen.{has_name}
use Rattle.fb_types.proofs.cycles.settle.Given as goal

abbrev pub invariant-loop-other : goal.invariant-loop-other
invariant-loop-other l = record {
  undecided : (u : List ℕ) → has_name l.undecided.keys u ≡ (if has_name (take l.other-index l.round) u || eq_by_cmp name_cmp u l.name then false else has_name l.fn.undecided.keys u);
  found : (u : List ℕ) → has_name l.found.keys u ≡ (has_name l.fn.found.keys u || has_name (take l.other-index l.round) u);
}
