-- What the sections of a system hold, joined in the order of the text.
use Rattle.std.specs.Prelude.{List, [], ◌∷◌, ◌++◌, map}
use Rattle.fb_tree.specs.Tree.{ApplicationTree, DeviceTree, MappingTree, application_tree, device_tree, mapping_tree}
use Rattle.fb_parse.specs.declared.system.SystemContents.{SystemContents}

pub record SystemContentsTree : Type 0 where
  pub applications : List ApplicationTree
  pub devices : List DeviceTree
  pub mappings : List MappingTree

abbrev pub system_contents_tree : SystemContents → SystemContentsTree
system_contents_tree c =
    record { applications = map application_tree c.applications.items; devices = map device_tree c.devices.items; mappings = map mapping_tree c.mappings.items }

abbrev pub of_application : ApplicationTree → SystemContentsTree
of_application application = record { applications = application ∷ []; devices = []; mappings = [] }

abbrev pub of_device : DeviceTree → SystemContentsTree
of_device device = record { applications = []; devices = device ∷ []; mappings = [] }

abbrev pub of_mappings : List MappingTree → SystemContentsTree
of_mappings mappings = record { applications = []; devices = []; mappings = mappings }

-- what one section holds, and then what others hold
abbrev pub systems_merged : SystemContentsTree → SystemContentsTree → SystemContentsTree
systems_merged a b = record { applications = a.applications ++ b.applications; devices = a.devices ++ b.devices; mappings = a.mappings ++ b.mappings }

-- what all sections hold, in the order of the text
abbrev pub system_joined : List SystemContentsTree → SystemContentsTree
system_joined [] = record { applications = []; devices = []; mappings = [] }
system_joined (section ∷ others) = systems_merged section (system_joined others)
