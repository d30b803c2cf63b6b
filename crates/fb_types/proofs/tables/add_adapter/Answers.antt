-- What is there stays; where the unit has a tree, its network is added; where it has none, there is none to have.
use Rattle.std.proofs.Common.{◌≡◌, Some, None, sym, ap, ◌∙◌}
use Rattle.std.specs.{Prelude.{option_map}, BTreeMap.{get}}
use Rattle.fb_tree.specs.Text.Order.{name_cmp}
use Rattle.fb_network.specs.Plain.{PlainNetwork}
use Rattle.fb_types.specs.{ByName.{declared}, Networks.{network_of}}
use Rattle.fb_types.proofs.TableLemmas.{grows_none, has_none, has_there, put_grows, put_has}
use Rattle.fb_types.proofs.tables.add_adapter.Goals as goal

pub returns-then-contains_key-clause-grows : goal.returns-then-contains_key-clause-grows
returns-then-contains_key-clause-grows g c = grows_none c.requires

pub returns-then-contains_key-clause-has : goal.returns-then-contains_key-clause-has
returns-then-contains_key-clause-has g c = has_there (g.V.View.sources c.args.view.now) (get name_cmp c.args.table.now) c.args.name.now c.requires (sym c.contains_key.ensures ∙ c.if-contains_key.true)

pub returns-in_ok-insert-clause-grows : goal.returns-in_ok-insert-clause-grows
returns-in_ok-insert-clause-grows g c =
    let sources = g.V.View.sources c.args.view.now in
    let d : declared sources c.args.name.now ≡ Some c.in_ok-it.it =
    ap (option_map network_of) (sym c.in-Some.ensures) ∙ ap (λ (n : PlainNetwork). Some n) (sym c.in_ok-it.ensures) in
    put_grows sources (get name_cmp c.args.table.now) _ c.args.name.now c.in_ok-it.it d c.in_ok-insert.ensures.updates.1 c.in_ok-insert.ensures.updates.2 c.requires

pub returns-in_ok-insert-clause-has : goal.returns-in_ok-insert-clause-has
returns-in_ok-insert-clause-has g c =
    let sources = g.V.View.sources c.args.view.now in
    let d : declared sources c.args.name.now ≡ Some c.in_ok-it.it =
    ap (option_map network_of) (sym c.in-Some.ensures) ∙ ap (λ (n : PlainNetwork). Some n) (sym c.in_ok-it.ensures) in
    put_has sources (get name_cmp c.args.table.now) _ c.args.name.now c.in_ok-it.it d c.in_ok-insert.ensures.updates.1 c.in_ok-insert.ensures.updates.2

pub returns-in_default-clause-grows : goal.returns-in_default-clause-grows
returns-in_default-clause-grows g c = grows_none c.requires

pub returns-in_default-clause-has : goal.returns-in_default-clause-has
returns-in_default-clause-has g c =
    let sources = g.V.View.sources c.args.view.now in
    let d : declared sources c.args.name.now ≡ None = ap (option_map network_of) (sym c.in_default.ensures) in
    has_none sources (get name_cmp c.args.table.now) c.args.name.now d
