-- The name spaces of a unit: the names that each declares, in the order of the text.
use Rattle.std.specs.{Prelude.{Bool, true, false, List, [], ◌∷◌, ◌++◌, map, if◌then◌else◌}, List.{flat_map}}
use Rattle.fb_tree.specs.{Text.declared.name.NameUse.{NameUse}, declared.network.Role.{Role}}
use Rattle.fb_tree.specs.declared.network.Role.TheVariants.{Plug, Socket, Block, Subapplication}
use Rattle.fb_tree.specs.Tree.{InterfaceTree, InstanceTree, NetworkTree, ChartTree, DeviceTree, TypeTree, SystemTree, StructureTree, DeclTree, block_type, adapter_type, subapplication_type, system_configuration, structure_type}

abbrev pub is_block : Role → Bool
is_block Plug = false
is_block Socket = false
is_block Block = true
is_block Subapplication = false

abbrev pub interface_spaces : InterfaceTree → List (List NameUse)
interface_spaces i = map (λ e. e.name) i.events ∷ flat_map (λ v. v.names) i.variables ∷ []

abbrev pub chart_spaces : ChartTree → List (List NameUse)
chart_spaces c = map (λ s. s.name) c.states ∷ map (λ a. a.name) c.algorithms ∷ []

-- the parameters of a block instance; those of others are not checked
abbrev pub parameter_names : InstanceTree → List NameUse
parameter_names i = if is_block i.role then map (λ p. p.name) i.parameters else []

-- plugs, sockets and instances share one space
abbrev pub network_spaces : NetworkTree → List (List NameUse)
network_spaces n = map (λ i. i.name) n.instances ∷ map parameter_names n.instances

abbrev pub type_spaces : TypeTree → List (List NameUse)
type_spaces d = interface_spaces d.interface ++ chart_spaces d.chart ++ network_spaces d.network

abbrev pub resource_names : DeviceTree → List NameUse
resource_names d = map (λ r. r.name) d.resources

-- each application has the space of its instances, and each device that of its resources
abbrev pub system_spaces : SystemTree → List (List NameUse)
system_spaces s =
    map (λ a. a.name) s.applications ∷ flat_map (λ a. network_spaces a.network) s.applications
    ++ map (λ d. d.name) s.devices ∷ map resource_names s.devices

-- fields share one space
abbrev pub structure_spaces : StructureTree → List (List NameUse)
structure_spaces s = flat_map (λ v. v.names) s.fields ∷ []

abbrev pub spaces_of : DeclTree → List (List NameUse)
spaces_of (block_type d) = type_spaces d
spaces_of (adapter_type d) = type_spaces d
spaces_of (subapplication_type d) = type_spaces d
spaces_of (system_configuration s) = system_spaces s
spaces_of (structure_type s) = structure_spaces s
