-- The adapters of the ports passed so far are there, and nothing is lost.
use Rattle.std.proofs.Common.{take}
use Rattle.std.specs.BTreeMap.{get}
use Rattle.fb_tree.specs.Text.Order.{name_cmp}
use Rattle.fb_types.specs.Tables.{Grows, HasAdapters}
use Rattle.fb_types.proofs.tables.add_adapters.Given as goal

abbrev pub invariant-loop-port : goal.invariant-loop-port
invariant-loop-port g l = record {
  grows : Grows (g.V.View.sources l.view) (get name_cmp l.fn.table) (get name_cmp l.table);
  has : HasAdapters (g.V.View.sources l.view) (get name_cmp l.table) (take l.port-index l.ports);
}
