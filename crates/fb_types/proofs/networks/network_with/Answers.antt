use Rattle.std.proofs.Common.{◌≡◌, List, [], ◌∷◌, Option, map, refl, sym, ap, ◌∙◌}
use Rattle.std.specs.List.{cons_option, filter_map}
use Rattle.fb_tree.specs.{Tree.{instance_tree}, declared.network.Instance.{Instance as InstanceUse}}
use Rattle.fb_network.specs.{Plain.{PlainNetwork}, declared.network.Connection.{Connection}, declared.network.Instance.{Instance}, declared.network.Port.{Port}}
use Rattle.fb_types.specs.Networks.{plain_connection, plain_instance}
use Rattle.fb_types.proofs.networks.network_with.Goals as goal

mapped : {X Y Z : Type 0} (f : Y → Option Z) (g : X → Y) (xs : List X) → filter_map f (map g xs) ≡ filter_map (λ x. f (g x)) xs
mapped f g [] = refl
mapped f g (x ∷ xs) = ap (cons_option (f (g x))) (mapped f g xs)

abbrev of_lists : List Port → List Instance → List Connection → PlainNetwork
of_lists ports instances connections = record { ports = ports; instances = instances; connections = connections }

pub returns : goal.returns
returns c =
    let items = c.args.network.now.instances.items in
    let instances : c.in_ok-instances.instances.items ≡ filter_map plain_instance (map instance_tree items) = c.in_ok-instances.ensures ∙ ap (filter_map (λ (i : InstanceUse). plain_instance (instance_tree i))) c.as_slice.ensures.value ∙ sym (mapped plain_instance instance_tree items) in
    let connections : c.in_ok-connections.connections.items ≡ map plain_connection c.args.network.now.connections.items = c.in_ok-connections.ensures ∙ ap (map plain_connection) c.as_slice-2.ensures.value in
    c.new.ensures ∙ (λ k. of_lists c.args.ports.items (instances k) (connections k))
