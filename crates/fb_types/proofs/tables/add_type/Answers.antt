-- Where the unit has a tree, its network and the adapters of its ports are added.
use Rattle.std.proofs.Common.{◌≡◌, List, Some, None, sym, ap, subst, ◌∙◌}
use Rattle.std.specs.{Prelude.{option_map}, BTreeMap.{get}}
use Rattle.fb_tree.specs.Text.Order.{name_cmp}
use Rattle.fb_network.specs.{declared.network.Port.{Port}, Plain.{PlainNetwork}}
use Rattle.fb_types.specs.{ByName.{declared}, Networks.{network_of}, Tables.{HasAdapters}}
use Rattle.fb_types.proofs.TableLemmas.{adapters_kept, grows_both, grows_none, put_grows, put_has, type_is, type_none}
use Rattle.fb_types.proofs.tables.add_type.Goals as goal

pub returns-in_ok-insert-clause-grows : goal.returns-in_ok-insert-clause-grows
returns-in_ok-insert-clause-grows g c =
    let sources = g.V.View.sources c.args.view.now in
    let d : declared sources c.args.name.now ≡ Some c.in_ok-it.it =
    ap (option_map network_of) (sym c.in-Some.ensures) ∙ ap (λ (n : PlainNetwork). Some n) (sym c.in_ok-it.ensures) in
    let before = c.in_ok-add_adapters.ensures.grows in
    grows_both before (put_grows sources (get name_cmp c.add_adapters.new.table) _ c.args.name.now c.in_ok-it.it d c.in_ok-insert.ensures.updates.1 c.in_ok-insert.ensures.updates.2 before.is_true)

pub returns-in_ok-insert-clause-has : goal.returns-in_ok-insert-clause-has
returns-in_ok-insert-clause-has g c =
    let sources = g.V.View.sources c.args.view.now in
    let it = c.in_ok-it.it in
    let d : declared sources c.args.name.now ≡ Some it =
    ap (option_map network_of) (sym c.in-Some.ensures) ∙ ap (λ (n : PlainNetwork). Some n) (sym c.in_ok-it.ensures) in
    let before = c.in_ok-add_adapters.ensures.grows in
    let after = put_grows sources (get name_cmp c.add_adapters.new.table) _ c.args.name.now it d c.in_ok-insert.ensures.updates.1 c.in_ok-insert.ensures.updates.2 before.is_true in
    let has = put_has sources (get name_cmp c.add_adapters.new.table) _ c.args.name.now it d c.in_ok-insert.ensures.updates.1 c.in_ok-insert.ensures.updates.2 in
    let ports = subst (λ (l : List Port). HasAdapters sources (get name_cmp c.add_adapters.new.table) l) c.ports.ensures c.in_ok-add_adapters.ensures.has in
    type_is c.args.name.now it d has (adapters_kept it.ports after ports)

pub returns-in_default-clause-grows : goal.returns-in_default-clause-grows
returns-in_default-clause-grows g c = grows_none c.requires

pub returns-in_default-clause-has : goal.returns-in_default-clause-has
returns-in_default-clause-has g c =
    let sources = g.V.View.sources c.args.view.now in
    let d : declared sources c.args.name.now ≡ None = ap (option_map network_of) (sym c.in_default.ensures) in
    type_none (get name_cmp c.args.table.now) c.args.name.now d
