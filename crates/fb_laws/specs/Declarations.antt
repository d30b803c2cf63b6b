-- Each code of declarations in other words: where the list of faults has it.
use Rattle.std.specs.Prelude.{◌≡◌, ◌≢◌, ℕ, ◌<◌, true, false, List, Some, None, Contains, slice_get}
use Rattle.fb_laws.specs.Common.{Span, NameUse, ConstantTree, DeclTree, EventTree, InstanceTree, StructureTree, TypeTree, VariablesTree, block_type, structure_type, one_value, value_list, value_span, Simple, TypeUse, UnitKind, Role, Sources, tree_at, type_in, Free, Duplicate, Literal, MixedKind, NameDiffers, StructRecursive, UnknownType, WithUnknown, WrongKind, DeclaredVariable, class_of_name, class_of_simple, class_of_type, declared_name, stands_for, variables_in, Block, Plug, Socket, Subapplication}
use Rattle.fb_laws.specs.{Classes.{Takes}, Declared.{AreDeclaredIn}, Spaces.{IsSpace}, UnitParts.{Declarations, IsReportedWhere}}
use Rattle.fb_tree.specs.Mentions.{unit_kind_of}
use Rattle.fb_tree.specs.declared.interface.TypeForm.TheVariants as forms
use Rattle.fb_tree.specs.declared.kinds.UnitKind.TheVariants as kinds
use Rattle.fb_deploy.specs.{Library.Near.{Carries}, Iface.Sides.{goes_with}, Iface.Types.{instances_of}}

-- the unit is present and not broken, and this is what it declares
abbrev pub IsDeclaredAt : Sources → List ℕ → DeclTree → Type 0
IsDeclaredAt sources unit decl = tree_at sources unit ≡ Some decl

-- the declared name is not the unit's
pub record HasOtherName (sources : Sources) (unit : List ℕ) (span : Span) : Type 0 where
  pub decl : DeclTree
  pub declared : IsDeclaredAt sources unit decl
  pub differs : (declared_name decl).name ≢ unit
  pub place : span ≡ (declared_name decl).span

-- a name at a place of a name space that has the same name at an earlier place too
pub record HasDuplicate (sources : Sources) (unit : List ℕ) (span : Span) : Type 0 where
  pub decl : DeclTree
  pub declared : IsDeclaredAt sources unit decl
  pub space : List NameUse
  pub is_space : IsSpace decl space
  pub earlier : ℕ
  pub later : ℕ
  pub before : earlier < later
  pub first : NameUse
  pub again : NameUse
  pub first_at : slice_get space earlier ≡ Some first
  pub again_at : slice_get space later ≡ Some again
  pub same : first.name ≡ again.name
  pub place : span ≡ again.span

-- a block type with a section of states and with a section of block instances or of connections
pub record HasMixedKind (sources : Sources) (unit : List ℕ) (span : Span) : Type 0 where
  pub block : TypeTree
  pub declared : IsDeclaredAt sources unit (block_type block)
  pub has_states : block.chart.is_written ≡ true
  pub has_network : block.network.is_written ≡ true
  pub place : span ≡ block.name.span

-- an instance, plug or socket of a type that is absent or broken
pub record HasUnknownType (sources : Sources) (unit : List ℕ) (span : Span) : Type 0 where
  pub decl : DeclTree
  pub declared : IsDeclaredAt sources unit decl
  pub instance : InstanceTree
  pub among : Contains (instances_of decl) instance
  pub unknown : tree_at sources instance.type_name.name ≡ None
  pub place : span ≡ instance.type_name.span

-- the kind of type that a section asks for: an adapter for PLUGS and SOCKETS, a block for FBS, a subapplication for SUBAPPS
pub data Suits : Role → UnitKind → Type 0 where
  plug : Suits Plug kinds.Adapter
  socket : Suits Socket kinds.Adapter
  block : Suits Block kinds.Block
  subapplication : Suits Subapplication kinds.Subapplication

-- an instance, plug or socket of a type that is there and is of another kind than its section wants
pub record HasWrongKind (sources : Sources) (unit : List ℕ) (span : Span) : Type 0 where
  pub decl : DeclTree
  pub declared : IsDeclaredAt sources unit decl
  pub instance : InstanceTree
  pub among : Contains (instances_of decl) instance
  pub type : DeclTree
  pub known : IsDeclaredAt sources instance.type_name.name type
  pub unsuited : ¬ Suits instance.role (unit_kind_of type)
  pub place : span ≡ instance.type_name.span

-- a name after WITH that means no data input, if the event is an input, or no data output, if it is an output
pub record HasUnknownWith (sources : Sources) (unit : List ℕ) (span : Span) : Type 0 where
  pub decl : DeclTree
  pub declared : IsDeclaredAt sources unit decl
  pub type : TypeTree
  pub is_type : type_in decl ≡ Some type
  pub event : EventTree
  pub among : Contains type.interface.events event
  pub name : NameUse
  pub behind : Contains event.with name
  pub no_data : (v : DeclaredVariable) → stands_for (variables_in type.interface) name.name ≡ Some v → goes_with event.side v.section ≡ false
  pub place : span ≡ name.span

-- where a constant doesn't fit its type: a single value that the type doesn't take, a single value for an array, an element of the list for an array,
-- a list for what is no array and not of a generic type
pub data IsMisfit (used : TypeUse) : ConstantTree → Span → Type 0 where
  alone : {v : Simple} → used.form ≢ forms.Array → ¬ Takes (class_of_type used) (class_of_simple v) → IsMisfit used (one_value v) (value_span v)
  no_list : {v : Simple} → used.form ≡ forms.Array → class_of_simple v ≢ Free → IsMisfit used (one_value v) (value_span v)
  element : {values : List Simple} {span : Span} {v : Simple} → used.form ≡ forms.Array → Contains values v → ¬ Takes (class_of_name used.name.name) (class_of_simple v) → IsMisfit used (value_list values span) (value_span v)
  no_array : {values : List Simple} {span : Span} → used.form ≢ forms.Array → class_of_type used ≢ Free → IsMisfit used (value_list values span) span

-- an initial value that doesn't fit the type of its variables or fields
pub record HasMisfit (sources : Sources) (unit : List ℕ) (span : Span) : Type 0 where
  pub decl : DeclTree
  pub declared : IsDeclaredAt sources unit decl
  pub variables : VariablesTree
  pub among : AreDeclaredIn decl variables
  pub initial : ConstantTree
  pub written : variables.initial ≡ Some initial
  pub misfit : IsMisfit variables.type_use initial span

-- a structure that carries itself
pub record HasSelfCarrying (sources : Sources) (unit : List ℕ) (span : Span) : Type 0 where
  pub structure : StructureTree
  pub declared : IsDeclaredAt sources unit (structure_type structure)
  pub carries : Carries sources unit unit
  pub place : span ≡ structure.name.span

abbrev pub OtherNamesAreReported : Type 0
OtherNamesAreReported = IsReportedWhere Declarations NameDiffers HasOtherName

abbrev pub DuplicatesAreReported : Type 0
DuplicatesAreReported = IsReportedWhere Declarations Duplicate HasDuplicate

abbrev pub MixedKindsAreReported : Type 0
MixedKindsAreReported = IsReportedWhere Declarations MixedKind HasMixedKind

abbrev pub UnknownTypesAreReported : Type 0
UnknownTypesAreReported = IsReportedWhere Declarations UnknownType HasUnknownType

abbrev pub WrongKindsAreReported : Type 0
WrongKindsAreReported = IsReportedWhere Declarations WrongKind HasWrongKind

abbrev pub UnknownWithsAreReported : Type 0
UnknownWithsAreReported = IsReportedWhere Declarations WithUnknown HasUnknownWith

abbrev pub MisfitsAreReported : Type 0
MisfitsAreReported = IsReportedWhere Declarations Literal HasMisfit

abbrev pub RecursiveStructuresAreReported : Type 0
RecursiveStructuresAreReported = IsReportedWhere Declarations StructRecursive HasSelfCarrying
