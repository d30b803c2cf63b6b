-- What a unit declares, and what a type declares first of its name and at which place.
use Rattle.std.specs.Prelude.{◌≡◌, ◌≢◌, ℕ, ◌<◌, List, Option, Some, Contains, slice_get}
use Rattle.fb_laws.specs.Common.{NameUse, ApplicationTree, DeclTree, EventTree, InstanceTree, InterfaceTree, NetworkTree, StructureTree, SystemTree, TypeTree, VariablesTree, adapter_type, block_type, structure_type, subapplication_type, system_configuration, Section, Side, TypeUse, Role, Sources, tree_at, Input, Output}
use Rattle.fb_tree.specs.declared.interface.Section.TheVariants as sections

-- the unit is a block type, and this its declaration
abbrev pub IsBlockAt : Sources → List ℕ → TypeTree → Type 0
IsBlockAt sources unit d = tree_at sources unit ≡ Some (block_type d)

-- the types that have ports: block types, adapter types and subapplication types
pub data IsType : DeclTree → TypeTree → Type 0 where
  of_block : (d : TypeTree) → IsType (block_type d) d
  of_adapter : (d : TypeTree) → IsType (adapter_type d) d
  of_subapplication : (d : TypeTree) → IsType (subapplication_type d) d

-- variables of a type, or fields of a structure, that are declared together, as `A, B : INT;`
pub data AreDeclaredIn : DeclTree → VariablesTree → Type 0 where
  variables_of_type : {decl : DeclTree} {type : TypeTree} {variables : VariablesTree}
      → IsType decl type → Contains type.interface.variables variables → AreDeclaredIn decl variables
  fields_of_structure : {s : StructureTree} {fields : VariablesTree}
      → Contains s.fields fields → AreDeclaredIn (structure_type s) fields

-- an instance, plug or socket of a type, or an instance of an application of a system
pub data IsHeldIn : DeclTree → InstanceTree → Type 0 where
  instance_of_type : {decl : DeclTree} {type : TypeTree} {instance : InstanceTree}
      → IsType decl type → Contains type.network.instances instance → IsHeldIn decl instance
  instance_of_application : {s : SystemTree} {application : ApplicationTree} {instance : InstanceTree}
      → Contains s.applications application → Contains application.network.instances instance
      → IsHeldIn (system_configuration s) instance

-- ---- events, and instances

-- at this place an item of this name is declared, of any sort, and none at an earlier place
pub record IsFirstItem {A : Type 0} (name_of : A → NameUse) (items : List A) (name : List ℕ) (place : ℕ) : Type 0 where
  pub item : A
  pub there : slice_get items place ≡ Some item
  pub named : (name_of item).name ≡ name
  pub first : (earlier : ℕ) (other : A) → earlier < place
      → slice_get items earlier ≡ Some other → (name_of other).name ≢ name

-- the first item of its name is of this sort and of this type
pub record IsItemOf {A S T : Type 0} (name_of : A → NameUse) (sort_of : A → S) (type_of : A → T) (items : List A) (sort : S) (name : List ℕ) (type : T) : Type 0 where
  pub place : ℕ
  pub declared : IsFirstItem name_of items name place
  pub of_sort : sort_of declared.item ≡ sort
  pub typed : type_of declared.item ≡ type

-- at this place an event of this name is declared, input or output, and none at an earlier place
abbrev pub IsFirstEvent : InterfaceTree → List ℕ → ℕ → Type 0
IsFirstEvent interface = IsFirstItem (λ (e : EventTree). e.name) interface.events

-- an event input or an event output, with its type if one is written
abbrev pub IsEventOn : InterfaceTree → Side → List ℕ → Option NameUse → Type 0
IsEventOn interface = IsItemOf (λ (e : EventTree). e.name) (λ e. e.side) (λ e. e.type_name) interface.events

-- at this place an instance of this name is declared, plug, socket or another, and none at an earlier place
abbrev pub IsFirstInstance : NetworkTree → List ℕ → ℕ → Type 0
IsFirstInstance network = IsFirstItem (λ (i : InstanceTree). i.name) network.instances

-- an instance in this role, as a plug or a socket, with its type
abbrev pub IsInstanceAs : NetworkTree → Role → List ℕ → NameUse → Type 0
IsInstanceAs network = IsItemOf (λ (i : InstanceTree). i.name) (λ i. i.role) (λ i. i.type_name) network.instances

-- ---- data

-- the cell of the name of a variable: its row, as `A, B : INT;`, and its place in that
pub record Cell : Type 0 where
  pub row : ℕ
  pub column : ℕ

-- in an earlier row, or earlier in the same row
pub data IsBefore (a b : Cell) : Type 0 where
  in_earlier_row : a.row < b.row → IsBefore a b
  in_same_row : a.row ≡ b.row → a.column < b.column → IsBefore a b

-- this name is at this place, in this row
pub record StandsAt (interface : InterfaceTree) (place : Cell) (row : VariablesTree) (name : NameUse) : Type 0 where
  pub row_there : slice_get interface.variables place.row ≡ Some row
  pub name_there : slice_get row.names place.column ≡ Some name

-- at this place a variable of this name is declared, input, output or internal, and none at an earlier place
pub record IsFirstVariable (interface : InterfaceTree) (name : List ℕ) (place : Cell) : Type 0 where
  pub row : VariablesTree
  pub spelled : NameUse
  pub there : StandsAt interface place row spelled
  pub named : spelled.name ≡ name
  pub first : (earlier : Cell) (other_row : VariablesTree) (other : NameUse)
      → IsBefore earlier place → StandsAt interface earlier other_row other → other.name ≢ name

-- a variable of this section, VAR_INPUT, VAR_OUTPUT or VAR, with its type
pub record IsVariableIn (interface : InterfaceTree) (section : Section) (name : List ℕ) (type_use : TypeUse) : Type 0 where
  pub place : Cell
  pub declared : IsFirstVariable interface name place
  pub in_section : declared.row.section ≡ section
  pub typed : declared.row.type_use ≡ type_use

-- a data input is declared in VAR_INPUT, a data output in VAR_OUTPUT
pub data IsDataOn (interface : InterfaceTree) : Side → List ℕ → TypeUse → Type 0 where
  data_input : {name : List ℕ} {type_use : TypeUse}
      → IsVariableIn interface sections.Input name type_use
      → IsDataOn interface Input name type_use
  data_output : {name : List ℕ} {type_use : TypeUse}
      → IsVariableIn interface sections.Output name type_use
      → IsDataOn interface Output name type_use
