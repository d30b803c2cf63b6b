-- The draft holds what is composed, and what is finished of it is the flat network.
use Rattle.std.proofs.lemmas.Result.{IfOk-weaker}
use Rattle.std.specs.BTreeMap.{get}
use Rattle.fb_tree.specs.Text.Order.{name_cmp}
use Rattle.fb_network.proofs.{Connections.{are_named, own_grown}, FlatLemmas.{flat_in_whole, holds_all, laid_of}}
use Rattle.fb_network.proofs.composition.flat_network.compose_by_part.Goals as goal

pub take_instances-requires-clause-named : goal.take_instances-requires-clause-named
take_instances-requires-clause-named g c =
    rw c.instances.ensures (are_named c.in_ok-draft.draft.prefixes c.args.network.now c.in_ok-draft.ensures.own)

pub push_links-requires-clause-table : goal.push_links-requires-clause-table
push_links-requires-clause-table g c = (g.N.Nets.nets c.args.nets.now, (rw c.instances.ensures at c.in_ok-table.ensures).standing)

pub push_links-requires-clause-own : goal.push_links-requires-clause-own
push_links-requires-clause-own g c =
    own_grown c.in_ok-draft.draft.prefixes c.take_instances.new.draft.prefixes c.args.network.now c.in_ok-table.ensures.grows c.in_ok-draft.ensures.own

pub finish-requires : goal.finish-requires
finish-requires g c =
    let nets = g.N.Nets.nets c.args.nets.now in
    let held = rw c.instances.ensures at c.in_ok-table.ensures in
    laid_of (holds_all (g.V.Networks.networks c.args.part.now) c.args.network.now nets (get name_cmp c.in_ok-table.table) c.in_ok-draft.draft c.take_instances.new.draft c.push_links.new.draft c.in_ok-edges.edges.items c.in_ok-draft.ensures.own held c.in_ok-push_links.ensures c.in_ok-edges.ensures)

pub returns : goal.returns
returns g c =
    let nets = g.N.Nets.nets c.args.nets.now in
    let held = rw c.instances.ensures at c.in_ok-table.ensures in
    let all = holds_all (g.V.Networks.networks c.args.part.now) c.args.network.now nets (get name_cmp c.in_ok-table.table) c.in_ok-draft.draft c.take_instances.new.draft c.push_links.new.draft c.in_ok-edges.edges.items c.in_ok-draft.ensures.own held c.in_ok-push_links.ensures c.in_ok-edges.ensures in
    IfOk-weaker c.finish.result _ _ (λ flat is. flat_in_whole flat all is) c.finish.ensures
