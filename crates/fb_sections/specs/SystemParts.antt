-- The forms of mappings, resources and devices.
use Rattle.std.specs.Prelude.{List, map}
use Rattle.fb_tree.specs.{Text.declared.name.NameUse.{NameUse}, Tree.{ParameterTree, parameter_tree, MappingTree, ResourceTree, DeviceTree}}
use Rattle.fb_grammar.specs.declared.kind.Kind.TheVariants.{Mappings, EndMappings, Resource, EndResource, Device, EndDevice, NameOn, Colon, Semicolon, Point}
use Rattle.fb_grammar.specs.{Form.{Form, both, option, many, as_value}, Words.{key, before, behind, passed, separated, name}}
use Rattle.fb_sections.specs.{declared.system_parts.HeaderParts.{HeaderParts}, Network.{optional_parameters}, Sections.{section}}

-- name {'.' name}
unfoldable pub path : Form (List NameUse)
path = separated Point name

-- name {'.' name} 'ON' name '.' name ';'
unfoldable pub mapping : Form MappingTree
mapping =
    as_value (λ v. record { path = v.0; device = v.1.0; resource = v.1.1 })
    (both path (behind (key NameOn) (both name (behind (key Point) (before name (key Semicolon))))))

-- 'MAPPINGS' {name {'.' name} 'ON' name '.' name ';'} 'END_MAPPINGS'
unfoldable pub mappings : Form (List MappingTree)
mappings = section Mappings mapping EndMappings

-- [';']
unfoldable pub optional_semicolon : Form (Unit {0})
optional_semicolon = passed (option (key Semicolon))

-- name ':' name [params] [';']
unfoldable pub header : Form (NameUse × (NameUse × List ParameterTree))
header = both name (behind (key Colon) (both name (before optional_parameters optional_semicolon)))

abbrev pub header_tree : HeaderParts → NameUse × (NameUse × List ParameterTree)
header_tree h = (h.name, (h.type_name, map parameter_tree h.parameters.items))

-- 'RESOURCE' name ':' name [params] [';'] 'END_RESOURCE'
unfoldable pub resource : Form ResourceTree
resource =
    as_value (λ v. record { name = v.0; type_name = v.1.0; parameters = v.1.1 })
    (behind (key Resource) (before header (key EndResource)))

-- 'DEVICE' name ':' name [params] [';'] {resource} 'END_DEVICE'
unfoldable pub device : Form DeviceTree
device =
    as_value (λ v. record { name = v.0.0; type_name = v.0.1.0; parameters = v.0.1.1; resources = v.1 })
    (behind (key Device) (both header (before (many resource) (key EndDevice))))
