-- What a system declares; types and structures declare nothing of it.
use Rattle.std.specs.Prelude.{List, [], Option, Some, None}
use Rattle.fb_tree.specs.Tree.{ApplicationTree, DeclTree, DeviceTree, MappingTree, block_type, adapter_type, subapplication_type, system_configuration, structure_type}

abbrev pub applications_in : Option DeclTree → List ApplicationTree
applications_in None = []
applications_in (Some (block_type d)) = []
applications_in (Some (adapter_type d)) = []
applications_in (Some (subapplication_type d)) = []
applications_in (Some (system_configuration s)) = s.applications
applications_in (Some (structure_type s)) = []

abbrev pub devices_in : Option DeclTree → List DeviceTree
devices_in None = []
devices_in (Some (block_type d)) = []
devices_in (Some (adapter_type d)) = []
devices_in (Some (subapplication_type d)) = []
devices_in (Some (system_configuration s)) = s.devices
devices_in (Some (structure_type s)) = []

abbrev pub mappings_in : Option DeclTree → List MappingTree
mappings_in None = []
mappings_in (Some (block_type d)) = []
mappings_in (Some (adapter_type d)) = []
mappings_in (Some (subapplication_type d)) = []
mappings_in (Some (system_configuration s)) = s.mappings
mappings_in (Some (structure_type s)) = []
