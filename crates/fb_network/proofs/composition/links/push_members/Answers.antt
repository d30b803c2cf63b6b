-- The prefixes of the plugs and then those of the sockets are added, and the links between them.
use Rattle.std.proofs.{Common.{refl, ap, ◌∙◌, ◌≡◌, ◌++◌, Vec, map}, lemmas.Result.{on_ok_weaker}}
use Rattle.fb_network.specs.{Laid.{path_at}, Reading.{ArePlaces}, Behind.{adapter_joins}}
use Rattle.fb_network.proofs.{Connections.{adds_members}, Readings.{places_grown}}
use Rattle.fb_network.proofs.composition.links.push_members.Goals as goal

pub push_member_prefixes-requires : goal.push_member_prefixes-requires
push_member_prefixes-requires c = c.requires.plugs

pub push_member_prefixes-requires-2 : goal.push_member_prefixes-requires-2
push_member_prefixes-requires-2 c =
    let prefixes = c.args.draft.now.prefixes in
    let there : ArePlaces prefixes c.args.sockets.now (map (path_at prefixes) c.args.sockets.now) = record { in_range = c.requires.sockets; is = refl } in
    (places_grown c.in_ok-plugged.ensures.grows there).in_range

pub returns : goal.returns
returns c =
    let draft = c.args.draft.now in
    let ports = c.args.ports.now in
    let named = ap (λ (names : Vec _ _). names.items) c.in_ok-names.ensures.ok ∙ c.in_ok-port_names.ensures in
    on_ok_weaker c.push_adapter_joins.result
    (λ (is : c.push_adapter_joins.new.joins.items ≡ draft.joins.items ++ adapter_joins ports c.deref.result.now c.deref-2.result.now).
    adds_members draft (record { prefixes = c.push_member_prefixes-2.new.prefixes; leaves = draft.leaves; joins = c.push_adapter_joins.new.joins }) c.push_member_prefixes.new.prefixes c.in_ok-names.names.value.items
    ports c.args.plugs.now c.args.sockets.now c.in_ok-plugged.plugged.items c.in_ok-socketed.socketed.items c.requires.sockets named
    c.in_ok-plugged.ensures.grows c.in_ok-plugged.ensures.members c.in_ok-socketed.ensures.grows c.in_ok-socketed.ensures.members refl
    (is ∙ (λ i. draft.joins.items ++ adapter_joins ports (c.deref.ensures.value i) (c.deref-2.ensures.value i))))
    c.push_adapter_joins.ensures
