-- The faults of mappings (IEC 61499-1, clause 7: system configurations).
use Rattle.std.specs.{Prelude.{ℕ, Bool, true, false, List, [], ◌∷◌, ◌++◌, map, Option, Some, None}, List.{flat_map}, Option.{option_map_or}}
use Rattle.fb_tree.specs.{Text.declared.name.NameUse.{NameUse}, Text.declared.token.Span.{Span}}
use Rattle.fb_tree.specs.Tree.{DeclTree, DeviceTree, MappingTree, SystemTree, block_type, adapter_type, subapplication_type, system_configuration, structure_type}
use Rattle.fb_netcheck.specs.{Library.View.{Sources, tree_at}, Iface.Names.{has_name, stands_for}}
use Rattle.fb_netcheck.specs.{Iface.declared.code.Code.TheVariants.{MappedTwice, NoSuchResource}, Iface.declared.fault.Fault.{Fault}}
use Rattle.fb_netcheck.specs.Paths.{path_of_names, repeated_faults}

-- the names of the resources of each device
abbrev pub resources_in : List DeviceTree → List (List ℕ × List NameUse)
resources_in devices = map (λ d. (d.name.name, map (λ r. r.name) d.resources)) devices

-- whether a device has the resource
abbrev pub has_resource : List DeviceTree → List ℕ → List ℕ → Bool
has_resource devices device resource = option_map_or (λ names. has_name names resource) (stands_for (resources_in devices) device) false

-- from the device's name through the resource's
abbrev pub home_span : MappingTree → Span
home_span m = record { start = m.device.span.start; end = m.resource.span.end }

abbrev pub home_faults : Bool → MappingTree → List Fault
home_faults true m = []
home_faults false m = record { code = NoSuchResource; span = home_span m } ∷ []

-- a mapping names a resource of the system
abbrev pub resource_faults : List DeviceTree → MappingTree → List Fault
resource_faults devices m = home_faults (has_resource devices m.device.name m.resource.name) m

-- no mapping has the path of an earlier one
abbrev pub second_mappings : List MappingTree → List Fault
second_mappings mappings = repeated_faults MappedTwice (map (λ m. path_of_names m.path) mappings)

abbrev pub system_mapping_faults : SystemTree → List Fault
system_mapping_faults s = second_mappings s.mappings ++ flat_map (resource_faults s.devices) s.mappings

-- types and structures have no mappings
abbrev pub declared_mapping_faults : Option DeclTree → List Fault
declared_mapping_faults None = []
declared_mapping_faults (Some (block_type d)) = []
declared_mapping_faults (Some (adapter_type d)) = []
declared_mapping_faults (Some (subapplication_type d)) = []
declared_mapping_faults (Some (system_configuration s)) = system_mapping_faults s
declared_mapping_faults (Some (structure_type s)) = []

-- the faults of the mappings of a unit
abbrev pub mapping_faults_of : Sources → List ℕ → List Fault
mapping_faults_of sources unit = declared_mapping_faults (tree_at sources unit)
