-- The links of one connection more.
use Rattle.std.proofs.{Common.{◌+◌, List, length, ap, ◌∙◌}, lemmas.List.{take_all}}
use Rattle.std.specs.BTreeMap.{get}
use Rattle.fb_tree.specs.Text.Order.{name_cmp}
use Rattle.fb_network.specs.{declared.network.Instance.{Instance}, declared.paths.place.Place.{Place}, Standing.{own_place}}
use Rattle.fb_network.proofs.{Connections.{adds_none, connects_more, own_grown, says_destination, says_source}, Standings.{table_grown}}
use Rattle.fb_network.proofs.composition.links.push_links.Goals as goal

pub loop-place-init : goal.loop-place-init
loop-place-init g c = λ nets is. adds_none c.args.draft.now

pub push_connection_links-requires : goal.push_connection_links-requires
push_connection_links-requires g c =
    let network = c.args.network.now in
    let before = c.args.draft.now.prefixes in
    let prefixes = c.loop-place.draft.prefixes in
    let laid = c.requires.table in
    let connections = c.connections-connections.result.now in
    let grows = (c.loop-place.invariant laid.0 laid.1).grows in
    let own = own_grown before prefixes network grows c.requires.own in
    let from_is = c.in_ok-source.ensures ∙ ap (λ (xs : List Instance). own_place (length xs + c.loop-place.place)) c.instances-sources.ensures in
    let to_is = c.in_ok-destination.ensures ∙ ap (λ (place : Place). own_place (length connections + place.end)) from_is in
    record {
      table = (laid.0, table_grown before prefixes laid.0 (get name_cmp c.args.table.now) network.instances grows laid.1);
      source = says_source prefixes network connections c.loop-place.place c.index-connections-place.result c.in_ok-source.source own c.connections-connections.ensures c.loop-place-test.true c.index-connections-place.is from_is;
      destination = says_destination prefixes network connections c.loop-place.place c.index-connections-place.result c.in_ok-destination.destination own c.connections-connections.ensures c.loop-place-test.true c.index-connections-place.is to_is;
    }

pub loop-place-preserved : goal.loop-place-preserved
loop-place-preserved g c =
    connects_more (g.V.Networks.networks c.args.view.now) c.args.network.now (get name_cmp c.args.table.now) c.args.draft.now c.loop-place.draft c.push_connection_links.new.draft c.connections-connections.result.now c.loop-place.place c.index-connections-place.result
    c.connections-connections.ensures c.loop-place-test.true c.index-connections-place.is c.loop-place.invariant c.in_ok-push_connection_links.ensures

pub returns : goal.returns
returns g c = rw (take_all c.loop-place.place c.connections-connections.result.now c.loop-place-test.false, c.connections-connections.ensures) at c.loop-place.invariant
