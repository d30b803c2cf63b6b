-- The networks of declarations as plain values.
use Rattle.std.specs.{Prelude.{ℕ, List, [], map, Option, Some, None}, List.{filter_map}}
use Rattle.fb_tree.specs.Text.declared.name.NameUse.{NameUse}
use Rattle.fb_tree.specs.Tree.{DeclTree, InstanceTree, NetworkTree, TypeTree, block_type, adapter_type, subapplication_type, system_configuration, structure_type}
use Rattle.fb_tree.specs.{declared.network.Connection.{Connection as ConnectionTree}, declared.network.End.{End as EndTree}, declared.network.Role.{Role}}
use Rattle.fb_tree.specs.declared.network.Role.TheVariants as roles
use Rattle.fb_iface.specs.Ports.{meanings_in_type}
use Rattle.fb_network.specs.{Plain.{PlainNetwork}, declared.network.Connection.{Connection}, declared.network.End.{End}}
use Rattle.fb_network.specs.{declared.network.End.TheVariants.{Own, Of}, declared.network.Instance.{Instance}}
use Rattle.fb_network.specs.{declared.network.InstanceKind.TheVariants.{Block, Subapplication}, declared.network.Port.{Port}}
use Rattle.fb_types.specs.Ports.{plain_ports}

-- blocks and subapplications are instances; plugs and sockets are ports
abbrev pub instance_in_role : Role → List ℕ → List ℕ → Option Instance
instance_in_role roles.Plug name type_name = None
instance_in_role roles.Socket name type_name = None
instance_in_role roles.Block name type_name = Some (record { name = name; kind = Block; type_name = type_name })
instance_in_role roles.Subapplication name type_name = Some (record { name = name; kind = Subapplication; type_name = type_name })

abbrev pub plain_instance : InstanceTree → Option Instance
plain_instance i = instance_in_role i.role i.name.name i.type_name.name

abbrev pub end_named : NameUse → Option NameUse → End
end_named name None = Own name.name
end_named name (Some port) = Of name.name port.name

abbrev pub plain_end : EndTree → End
plain_end end = end_named end.name end.port

abbrev pub plain_connection : ConnectionTree → Connection
plain_connection c = record { sort = c.sort; source = plain_end c.source; destination = plain_end c.destination }

-- a network with these ports
abbrev pub plain_network : List Port → NetworkTree → PlainNetwork
plain_network ports n = record { ports = ports; instances = filter_map plain_instance n.instances; connections = map plain_connection n.connections }

-- only ports
abbrev pub leaf : TypeTree → PlainNetwork
leaf d = record { ports = plain_ports (meanings_in_type d); instances = []; connections = [] }

-- the network of a unit: a composite block type has only ports, as other block types have, and a system or a structure has
-- no network of its own
abbrev pub network_of : DeclTree → PlainNetwork
network_of (block_type d) = leaf d
network_of (adapter_type d) = leaf d
network_of (subapplication_type d) = plain_network (plain_ports (meanings_in_type d)) d.network
network_of (system_configuration s) = record { ports = []; instances = []; connections = [] }
network_of (structure_type s) = record { ports = []; instances = []; connections = [] }
