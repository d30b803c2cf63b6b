-- What is pushed so far is counted.
use Rattle.std.specs.{Prelude.{All}, BTreeMap.{get}}
use Rattle.fb_types.specs.Text.Order.{name_cmp}
use Rattle.fb_flatten.specs.Inner.{IsCountedFlat}
use Rattle.fb_flatten.proofs.inner.inner_nets.Given as goal

abbrev pub invariant-loop-unit : goal.invariant-loop-unit
invariant-loop-unit l = All (IsCountedFlat (get name_cmp l.fn.flats) (get name_cmp l.counts)) l.nets.items
