-- The places behind the ends are in range, and the links between them are those of the connection.
use Rattle.std.proofs.{Common.{◌∙◌}, lemmas.Result.{on_ok_weaker}}
use Rattle.std.specs.BTreeMap.{get}
use Rattle.fb_tree.specs.Text.Order.{name_cmp}
use Rattle.fb_network.proofs.Connections.{adds_connection, behind_below, table_instances}
use Rattle.fb_network.proofs.composition.links.push_connection_links.Goals as goal

pub push_between-requires-clause-table : goal.push_between-requires-clause-table
push_between-requires-clause-table g c =
    table_instances c.args.draft.now.prefixes c.requires.table.0 (get name_cmp c.args.table.now) c.args.network.now.instances c.requires.table.1

pub push_between-requires-clause-froms : goal.push_between-requires-clause-froms
push_between-requires-clause-froms g c =
    behind_below c.args.draft.now.prefixes c.args.network.now (get name_cmp c.args.table.now) c.args.connection.now.sort c.args.source c.args.connection.now.source c.deref.result.now c.requires.table c.requires.source
    (c.deref.ensures.value ∙ c.in_ok-froms.ensures)

pub push_between-requires-clause-tos : goal.push_between-requires-clause-tos
push_between-requires-clause-tos g c =
    behind_below c.args.draft.now.prefixes c.args.network.now (get name_cmp c.args.table.now) c.args.connection.now.sort c.args.destination c.args.connection.now.destination c.deref-2.result.now c.requires.table c.requires.destination
    (c.deref-2.ensures.value ∙ c.in_ok-tos.ensures)

pub returns : goal.returns
returns g c =
    on_ok_weaker c.push_between.result
    (λ adds. adds_connection (g.V.Networks.networks c.args.view.now) c.args.network.now (get name_cmp c.args.table.now) c.args.draft.now c.push_between.new.draft c.args.connection.now c.args.source c.args.destination
    c.deref.result.now c.deref-2.result.now c.requires.source c.requires.destination (c.deref.ensures.value ∙ c.in_ok-froms.ensures) (c.deref-2.ensures.value ∙ c.in_ok-tos.ensures) adds)
    c.push_between.ensures
