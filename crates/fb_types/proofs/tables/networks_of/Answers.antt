-- Nothing is there at first, and each type that is passed is added.
use Rattle.std.proofs.Common.{List, ℕ, subst, take}
use Rattle.std.specs.BTreeMap.{get}
use Rattle.fb_tree.specs.Text.Order.{name_cmp}
use Rattle.fb_network.proofs.EmptyMaps.{nothing_at}
use Rattle.fb_types.specs.Tables.{IsTable}
use Rattle.fb_types.proofs.TableLemmas.{further, nothing_true, table_more, table_nothing}
use Rattle.fb_types.proofs.tables.networks_of.Goals as goal

pub loop-name-init : goal.loop-name-init
loop-name-init g c = table_nothing (get name_cmp c.new-table.result) (nothing_true (g.V.View.sources c.args.view.now) (get name_cmp c.new-table.result) (λ name. nothing_at c.new-table.result name c.new-table.ensures.empty))

pub add_type-requires : goal.add_type-requires
add_type-requires g c = c.loop-name.invariant.is_true

pub loop-name-preserved : goal.loop-name-preserved
loop-name-preserved g c =
    let names = c.args.names.now in
    let i = c.loop-name.name-index in
    let name = c.name-item.result in
    subst (λ (l : List (List ℕ)). IsTable (g.V.View.sources c.args.view.now) (get name_cmp c.add_type.new.table) l)
    (further names i name c.loop-name-test.true c.name-item.is)
    (table_more (take i names) name c.loop-name.invariant c.in_ok-add_type.ensures.grows c.in_ok-add_type.ensures.has)
