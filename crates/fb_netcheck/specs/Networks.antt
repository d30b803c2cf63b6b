-- The faults of networks.
use Rattle.std.specs.{Prelude.{ℕ, List, [], ◌∷◌, ◌++◌, map, Option, Some, None}, List.{flat_map}}
use Rattle.fb_tree.specs.Tree.{ApplicationTree, DeclTree, NetworkTree, TypeTree, block_type, adapter_type, subapplication_type, system_configuration, structure_type}
use Rattle.fb_tree.specs.{declared.kinds.UnitKind.{UnitKind}, declared.kinds.UnitKind.TheVariants.{Block, Subapplication, System}}
use Rattle.fb_iface.specs.{Library.View.{Sources, tree_at}, declared.fault.Fault.{Fault}, Scope.{scope_of_network, scope_of_type}}
use Rattle.fb_netcheck.specs.{Settings.{NetworkPlace}, Connections.{connection_faults}, Parameters.{all_parameters}, Repeats.{second_adapters, second_sources}}
use Rattle.fb_netcheck.specs.Types.{joined_types}

-- the faults of a network
abbrev pub network_faults : Sources → NetworkPlace → NetworkTree → List Fault
network_faults sources here n =
    flat_map (connection_faults here) n.connections ++ flat_map (joined_types sources here) n.connections ++ second_sources n.connections ++ second_adapters n.connections ++ all_parameters here.scope n.instances

-- the network of a type, with its place
abbrev pub type_place : Sources → List ℕ → UnitKind → TypeTree → NetworkPlace × NetworkTree
type_place sources unit kind d = (record { unit = unit; kind = kind; scope = scope_of_type sources d }, d.network)

-- the network of an application of a system
abbrev pub application_place : Sources → List ℕ → ApplicationTree → NetworkPlace × NetworkTree
application_place sources unit a = (record { unit = unit; kind = System; scope = scope_of_network sources a.network }, a.network)

-- the networks of a declaration, each with its place
abbrev pub networks_in : Sources → List ℕ → Option DeclTree → List (NetworkPlace × NetworkTree)
networks_in sources unit None = []
networks_in sources unit (Some (block_type d)) = type_place sources unit Block d ∷ []
networks_in sources unit (Some (adapter_type d)) = []
networks_in sources unit (Some (subapplication_type d)) = type_place sources unit Subapplication d ∷ []
networks_in sources unit (Some (system_configuration s)) = map (application_place sources unit) s.applications
networks_in sources unit (Some (structure_type s)) = []

-- the faults of a network at its place
abbrev pub placed_faults : Sources → NetworkPlace × NetworkTree → List Fault
placed_faults sources placed = network_faults sources placed.0 placed.1

abbrev pub type_network : Sources → List ℕ → UnitKind → TypeTree → List Fault
type_network sources unit kind d = placed_faults sources (type_place sources unit kind d)

abbrev pub application_network : Sources → List ℕ → ApplicationTree → List Fault
application_network sources unit a = placed_faults sources (application_place sources unit a)

-- an adapter type has no network, and neither has a structure
abbrev pub declared_faults : Sources → List ℕ → DeclTree → List Fault
declared_faults sources unit (block_type d) = type_network sources unit Block d
declared_faults sources unit (adapter_type d) = []
declared_faults sources unit (subapplication_type d) = type_network sources unit Subapplication d
declared_faults sources unit (system_configuration s) = flat_map (application_network sources unit) s.applications
declared_faults sources unit (structure_type s) = []

abbrev pub tree_faults : Sources → List ℕ → Option DeclTree → List Fault
tree_faults sources unit None = []
tree_faults sources unit (Some decl) = declared_faults sources unit decl

-- the faults of the networks of a unit; one that is absent or broken has none
abbrev pub net_faults_of : Sources → List ℕ → List Fault
net_faults_of sources unit = tree_faults sources unit (tree_at sources unit)
