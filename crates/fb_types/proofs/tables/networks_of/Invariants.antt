-- The types passed so far have their networks.
use Rattle.std.proofs.Common.{take}
use Rattle.std.specs.BTreeMap.{get}
use Rattle.fb_tree.specs.Text.Order.{name_cmp}
use Rattle.fb_types.specs.Tables.{IsTable}
use Rattle.fb_types.proofs.tables.networks_of.Given as goal

abbrev pub invariant-loop-name : goal.invariant-loop-name
invariant-loop-name g l = IsTable (g.V.View.sources l.view) (get name_cmp l.table) (take l.name-index l.names)
