-- The grammar of the texts of units.
use Rattle.std.specs.Prelude.{List}
use Rattle.fb_tree.specs.Text.declared.name.NameUse.{NameUse}
use Rattle.fb_structured_text.specs.Forms.declared.kind.Kind.{Kind}
use Rattle.fb_structured_text.specs.Forms.declared.kind.Kind.TheVariants.{FunctionBlock, EndFunctionBlock, Adapter, EndAdapter, Subapplication, EndSubapplication, Application, EndApplication, System, EndSystem, TypeWord, EndType, Colon}
use Rattle.fb_structured_text.specs.{Forms.Form.{Form, both, either, many, as_value}, Forms.Words.{key, before, behind, name}}
unfoldable pub use Rattle.fb_sections.specs.Chart.{states}
unfoldable pub use Rattle.fb_sections.specs.Interface.{events, data_variables, internal_variables, fields}
unfoldable pub use Rattle.fb_sections.specs.Network.{plugs, sockets, blocks, subapplications, connections}
use Rattle.fb_sections.specs.Skipped.{service}
unfoldable pub use Rattle.fb_sections.specs.SystemParts.{device, mappings, optional_semicolon}
use Rattle.fb_tree.specs.Tree.{VariablesTree, TypeTree, ApplicationTree, SystemTree, StructureTree, DeclTree, block_type, adapter_type, subapplication_type, system_configuration, structure_type}
use Rattle.fb_parse.specs.Chart.{transitions, algorithm}
use Rattle.fb_parse.specs.Contents.{ContentsTree, nothing, of_events, of_variables, of_adapters, of_instances, of_connections, of_states, of_transitions, of_algorithm, joined}
use Rattle.fb_parse.specs.SystemContents.{SystemContentsTree, of_application, of_device, of_mappings, system_joined}

-- Sections

-- events, or data inputs or outputs
unfoldable pub data_section : Form ContentsTree
data_section = either (as_value of_events events) (as_value of_variables data_variables)

-- a section of services, of which nothing is kept
unfoldable pub service_section : Form ContentsTree
service_section = as_value (λ _. nothing) service

-- a section of an interface: events, data, plugs or sockets
unfoldable pub interface_section : Form ContentsTree
interface_section = either data_section (either (as_value of_adapters plugs) (as_value of_adapters sockets))

-- block instances or connections
unfoldable pub network_section : Form ContentsTree
network_section = either (as_value of_instances blocks) (as_value of_connections connections)

-- states, transitions or an algorithm
unfoldable pub chart_section : Form ContentsTree
chart_section = either (as_value of_states states) (either (as_value of_transitions transitions) (as_value of_algorithm algorithm))

-- a section of a block type
unfoldable pub block_section : Form ContentsTree
block_section =
    either interface_section
    (either (as_value of_variables internal_variables)
    (either network_section
    (either chart_section service_section)))

-- a section of an adapter type
unfoldable pub adapter_section : Form ContentsTree
adapter_section = either data_section service_section

-- a section of an application
unfoldable pub application_section : Form ContentsTree
application_section = either network_section (as_value of_instances subapplications)

-- a section of a subapplication type
unfoldable pub subapplication_section : Form ContentsTree
subapplication_section = either interface_section (either application_section service_section)

-- Units

-- a word, name {section} and another word
abbrev pub framed : Kind → Form ContentsTree → Kind → Form (NameUse × ContentsTree)
framed start section end = behind (key start) (both name (before (as_value joined (many section)) (key end)))

abbrev pub type_of : NameUse × ContentsTree → TypeTree
type_of v = record { name = v.0; interface = v.1.interface; network = v.1.network; chart = v.1.chart }

-- 'FUNCTION_BLOCK' name {section} 'END_FUNCTION_BLOCK'
unfoldable pub block : Form TypeTree
block = as_value type_of (framed FunctionBlock block_section EndFunctionBlock)

-- 'ADAPTER' name {section} 'END_ADAPTER'
unfoldable pub adapter : Form TypeTree
adapter = as_value type_of (framed Adapter adapter_section EndAdapter)

-- 'SUBAPPLICATION' name {section} 'END_SUBAPPLICATION'
unfoldable pub subapplication : Form TypeTree
subapplication = as_value type_of (framed Subapplication subapplication_section EndSubapplication)

abbrev pub application_of : NameUse × ContentsTree → ApplicationTree
application_of v = record { name = v.0; network = v.1.network }

-- 'APPLICATION' name {section} 'END_APPLICATION'
unfoldable pub application : Form ApplicationTree
application = as_value application_of (framed Application application_section EndApplication)

-- a section of a system: an application, a device or mappings
unfoldable pub system_section : Form SystemContentsTree
system_section =
    either (as_value of_application application)
    (either (as_value of_device device) (as_value of_mappings mappings))

abbrev pub system_of : NameUse × SystemContentsTree → SystemTree
system_of v = record { name = v.0; applications = v.1.applications; devices = v.1.devices; mappings = v.1.mappings }

-- 'SYSTEM' name {section} 'END_SYSTEM'
unfoldable pub system : Form SystemTree
system = as_value system_of (behind (key System) (both name (before (as_value system_joined (many system_section)) (key EndSystem))))

abbrev pub structure_of : NameUse × List VariablesTree → StructureTree
structure_of v = record { name = v.0; fields = v.1 }

-- 'TYPE' name ':' 'STRUCT' {vardecl} 'END_STRUCT' [';'] 'END_TYPE'
unfoldable pub structure : Form StructureTree
structure = as_value structure_of (behind (key TypeWord) (both name (behind (key Colon) (before fields (behind optional_semicolon (key EndType))))))

-- the text of a unit
unfoldable pub unit : Form DeclTree
unit =
    either (as_value block_type block)
    (either (as_value adapter_type adapter)
    (either (as_value subapplication_type subapplication)
    (either (as_value system_configuration system)
    (as_value structure_type structure))))
