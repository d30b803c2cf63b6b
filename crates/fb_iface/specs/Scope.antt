-- What names mean in a network: the unit's own names, and the ports of the types of its instances.
use Rattle.std.specs.{Prelude.{ℕ, List, map, Option, Some, None, if◌then◌else◌}, Option.{option_and_then}}
use Rattle.fb_tree.specs.{Tree.{DeclTree, InstanceTree, NetworkTree, TypeTree}, Mentions.{unit_kind_of}, declared.kinds.UnitKind.{UnitKind}}
use Rattle.fb_tree.specs.declared.network.Role.{Role}
use Rattle.fb_library.specs.View.{Sources, tree_at}
use Rattle.fb_iface.specs.{Names.{has_name, stands_for}, Ports.{Meanings, meanings_in, meanings_in_network, meanings_in_type}, Types.{suits}}
use Rattle.fb_iface.specs.Ports.{DeclaredInstance}

-- the ports of a type of this kind, if it is the kind that the section requires
abbrev pub ports_where : Role → UnitKind → Meanings → Option Meanings
ports_where role kind ports = if suits role kind then Some ports else None

-- the ports of a type, if it is usable in this role: present, not broken, and of the kind that the section requires
abbrev pub usable : Role → Option DeclTree → Option Meanings
usable role None = None
usable role (Some decl) = ports_where role (unit_kind_of decl) (meanings_in decl)

-- the declaration of a type that one of these instances has
abbrev pub mentioned_type : Sources → List InstanceTree → List ℕ → Option DeclTree
mentioned_type sources instances name = if has_name (map (λ i. i.type_name) instances) name then tree_at sources name else None

-- the unit's own names, and for each role the ports of each type that an instance has, if it is usable in this role
pub record Scope : Type 0 where
  pub own : Meanings
  pub type_ports : Role → List ℕ → Option Meanings

abbrev pub type_ports_of : Sources → NetworkTree → Role → List ℕ → Option Meanings
type_ports_of sources network role name = usable role (mentioned_type sources network.instances name)

abbrev pub scope_of_type : Sources → TypeTree → Scope
scope_of_type sources d = record { own = meanings_in_type d; type_ports = type_ports_of sources d.network }

-- an application has only instances
abbrev pub scope_of_network : Sources → NetworkTree → Scope
scope_of_network sources network = record {
  own = meanings_in_network network;
  type_ports = type_ports_of sources network;
}

-- the ports of an instance, plug or socket, if its type is usable
abbrev pub instance_ports : Scope → DeclaredInstance → Option Meanings
instance_ports scope instance = scope.type_ports instance.role instance.type_name.name

-- the ports of what a name means among the instances, plugs and sockets
abbrev pub ports_of : Scope → List ℕ → Option Meanings
ports_of scope name = option_and_then (instance_ports scope) (stands_for scope.own.instances name)
