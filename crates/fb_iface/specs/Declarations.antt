-- The faults of what a unit declares.
use Rattle.std.specs.{Prelude.{ℕ, ◌&&◌, List, [], ◌∷◌, ◌++◌, Option, Some, None, if◌then◌else◌}, List.{flat_map}}
use Rattle.fb_tree.specs.Text.declared.name.NameUse.{NameUse}
use Rattle.fb_tree.specs.Tree.{DeclTree, VariablesTree, block_type, adapter_type, subapplication_type, system_configuration, structure_type}
use Rattle.fb_library.specs.View.{Sources, tree_at}
use Rattle.fb_iface.specs.{declared.code.Code.TheVariants.{NameDiffers, Duplicate, MixedKind}, declared.fault.Fault.{Fault}, Fault.{fault_at, faults_at}}
use Rattle.fb_iface.specs.{Literals.{literal_faults}, Types.{type_faults}, Names.{is_same, repeated}, Recursion.{recursion_faults}, Spaces.{spaces_of}}
use Rattle.fb_iface.specs.Withs.{with_faults}

-- the name that a text declares
abbrev pub declared_name : DeclTree → NameUse
declared_name (block_type d) = d.name
declared_name (adapter_type d) = d.name
declared_name (subapplication_type d) = d.name
declared_name (system_configuration s) = s.name
declared_name (structure_type s) = s.name

-- the declared name is the unit's
abbrev pub name_faults : List ℕ → DeclTree → List Fault
name_faults unit decl =
    if is_same (declared_name decl).name unit then [] else fault_at NameDiffers (declared_name decl) ∷ []

-- second and later declarations in a name space
abbrev pub space_duplicates : List NameUse → List Fault
space_duplicates names = faults_at Duplicate (repeated names)

-- a name is declared once in its name space
abbrev pub duplicate_faults : DeclTree → List Fault
duplicate_faults decl = flat_map space_duplicates (spaces_of decl)

-- what WITH names is data of the event's side
abbrev pub with_faults_of : DeclTree → List Fault
with_faults_of (block_type d) = with_faults d.interface
with_faults_of (adapter_type d) = with_faults d.interface
with_faults_of (subapplication_type d) = with_faults d.interface
with_faults_of (system_configuration s) = []
with_faults_of (structure_type s) = []

-- the variables of a type, or the fields of a structure
abbrev pub variables_of : DeclTree → List VariablesTree
variables_of (block_type d) = d.interface.variables
variables_of (adapter_type d) = d.interface.variables
variables_of (subapplication_type d) = d.interface.variables
variables_of (system_configuration s) = []
variables_of (structure_type s) = s.fields

-- initial values fit their types
abbrev pub literal_faults_of : DeclTree → List Fault
literal_faults_of decl = literal_faults (variables_of decl)

-- a block type has a chart or a network
abbrev pub mixed_faults : DeclTree → List Fault
mixed_faults (block_type d) = if d.chart.is_written && d.network.is_written then fault_at MixedKind d.name ∷ [] else []
mixed_faults (adapter_type d) = []
mixed_faults (subapplication_type d) = []
mixed_faults (system_configuration s) = []
mixed_faults (structure_type s) = []

abbrev pub declaration_faults : Sources → List ℕ → Option DeclTree → List Fault
declaration_faults sources unit None = []
declaration_faults sources unit (Some decl) =
    name_faults unit decl ++ duplicate_faults decl ++ mixed_faults decl ++ type_faults sources decl ++ with_faults_of decl ++ literal_faults_of decl
    ++ recursion_faults sources unit decl

-- the faults of what a unit declares; a unit that is absent or broken declares nothing
abbrev pub iface_faults_of : Sources → List ℕ → List Fault
iface_faults_of sources unit = declaration_faults sources unit (tree_at sources unit)
