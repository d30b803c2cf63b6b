-- The borders of one connection more.
use Rattle.std.proofs.{Common.{◌+◌, List, length, ap, ◌∙◌}, lemmas.List.{take_all}}
use Rattle.std.specs.BTreeMap.{get}
use Rattle.fb_tree.specs.Text.Order.{name_cmp}
use Rattle.fb_network.specs.{declared.network.Instance.{Instance}, declared.paths.place.Place.{Place}, Standing.{own_place}}
use Rattle.fb_network.proofs.Connections.{edges_more, edges_none}
use Rattle.fb_network.proofs.composition.borders.borders_of_network.Goals as goal

pub loop-place-init : goal.loop-place-init
loop-place-init c = edges_none c.args.network.now (get name_cmp c.args.table.now) c.new-edges.result.items c.new-edges.ensures.items

pub loop-place-preserved : goal.loop-place-preserved
loop-place-preserved c =
    let k = c.loop-place.place in
    let from_is = c.in_ok-from.ensures ∙ ap (λ (xs : List Instance). own_place (length xs + k)) c.instances-sources.ensures in
    let to_is = c.in_ok-to.ensures ∙ ap (λ (place : Place). own_place (length c.connections-connections.result.now + place.end)) from_is in
    edges_more c.args.network.now (get name_cmp c.args.table.now) c.loop-place.edges.items _ c.connections-connections.result.now k c.index-connections-place.result c.in_ok-from.from c.in_ok-to.to
    c.connections-connections.ensures c.loop-place-test.true c.index-connections-place.is from_is to_is c.in_ok-push_connection_borders.ensures c.loop-place.invariant

pub returns : goal.returns
returns c = rw (take_all c.loop-place.place c.connections-connections.result.now c.loop-place-test.false, c.connections-connections.ensures) at c.loop-place.invariant
