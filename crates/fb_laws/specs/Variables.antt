-- The variables that references begin at, and the fields that their further names lead to.
use Rattle.std.specs.Prelude.{◌≡◌, ◌≢◌, ◌⊎◌, ℕ, Bool, true, false, List, [], ◌∷◌, Some, None}
use Rattle.fb_laws.specs.Common.{is_elementary, ReferenceTree, StructureTree, TypeTree, adapter_type, structure_type, Section, TypeUse, Member, Sources, tree_at, class_of_name, is_free, stands_for, meanings_in_type, DeclaredInstance, DeclaredVariable}
use Rattle.fb_laws.specs.Usable.{IsAdapter}
use Rattle.fb_tree.specs.declared.interface.Section.TheVariants.{Input, Output}
use Rattle.fb_tree.specs.declared.interface.TypeForm.TheVariants as forms
use Rattle.fb_deploy.specs.Iface.Fields.{fields_in}
use Rattle.fb_expr.specs.References.{is_some_count}

-- a section of data inputs or of data outputs
abbrev pub IsData : Section → Type 0
IsData section = section ≡ Input ⊎ section ≡ Output

-- The first name of a reference is that of an own plug or socket, and this name follows it directly, with no subscript between them. The names
-- after that are `behind`.
pub record IsAtPort (d : TypeTree) (r : ReferenceTree) (i : DeclaredInstance) (m : Member) (behind : List Member) : Type 0 where
  pub stands : stands_for (meanings_in_type d).instances r.name.name ≡ Some i
  pub adapter : IsAdapter i
  pub plain : r.subscripts ≡ 0
  pub second : r.members ≡ m ∷ behind

-- The type that a reference begins with, whether it has a subscript there, and the further names after it: that of a data input or output of the
-- adapter type of an own plug or socket, or else that of a variable of the unit.
pub data Begins (sources : Sources) (d : TypeTree) (r : ReferenceTree) : TypeUse → Bool → List Member → Type 0 where
  own : (v : DeclaredVariable) → stands_for (meanings_in_type d).variables r.name.name ≡ Some v
      → ((i : DeclaredInstance) (m : Member) (behind : List Member) → ¬ IsAtPort d r i m behind)
      → Begins sources d r v.type_use (is_some_count r.subscripts) r.members
  of_adapter : {behind : List Member} (i : DeclaredInstance) (m : Member) (a : TypeTree) (v : DeclaredVariable)
      → IsAtPort d r i m behind → tree_at sources i.type_name.name ≡ Some (adapter_type a)
      → stands_for (meanings_in_type a).variables m.name.name ≡ Some v → IsData v.section
      → Begins sources d r v.type_use (is_some_count m.subscripts) behind

-- data of an own plug or socket whose type is absent, broken or no adapter type
pub record IsOfNoAdapter (sources : Sources) (d : TypeTree) (r : ReferenceTree) : Type 0 where
  pub instance : DeclaredInstance
  pub member : Member
  pub behind : List Member
  pub at_port : IsAtPort d r instance member behind
  pub none : (a : TypeTree) → tree_at sources instance.type_name.name ≢ Some (adapter_type a)

-- whether a subscript applies to the plain type in which a further name is looked up: to a plain type, if one is written; the subscript of an array selects
-- an element, and none applies to that
pub data Shows (used : TypeUse) : Bool → Bool → Type 0 where
  plain : {subscripted : Bool} → used.form ≡ forms.Plain → Shows used subscripted subscripted
  element : used.form ≡ forms.Array → Shows used true false

-- no name after it is checked: the type is generic, or absent or broken
pub data IsOpen (sources : Sources) (used : TypeUse) (subscripted : Bool) : Type 0 where
  generic : (on : Bool) → Shows used subscripted on → is_free (class_of_name used.name.name) ≡ true
      → IsOpen sources used subscripted
  unknown : (on : Bool) → Shows used subscripted on → is_elementary used.name.name ≡ false
      → tree_at sources used.name.name ≡ None → IsOpen sources used subscripted

-- it is a structure with this field
pub record HasField (sources : Sources) (used : TypeUse) (subscripted : Bool) (field : List ℕ) (v : DeclaredVariable) : Type 0 where
  pub shown : Shows used subscripted false
  pub declared : is_elementary used.name.name ≡ false
  pub structure : StructureTree
  pub is_structure : tree_at sources used.name.name ≡ Some (structure_type structure)
  pub found : stands_for (fields_in structure) field ≡ Some v

-- these names lead from a type to a type, and whether a subscript follows the last of them
pub data GoesOn (sources : Sources) : TypeUse → Bool → List Member → TypeUse → Bool → Type 0 where
  at_end : {used : TypeUse} {subscripted : Bool} → GoesOn sources used subscripted [] used subscripted
  through : {used last : TypeUse} {subscripted at_last : Bool} {m : Member} {others : List Member} (v : DeclaredVariable)
      → HasField sources used subscripted m.name.name v
      → GoesOn sources v.type_use (is_some_count m.subscripts) others last at_last
      → GoesOn sources used subscripted (m ∷ others) last at_last

-- the whole reference has this type, and whether a subscript follows its last name
pub record NamesType (sources : Sources) (d : TypeTree) (r : ReferenceTree) (last : TypeUse) (at_last : Bool) : Type 0 where
  pub first : TypeUse
  pub at_first : Bool
  pub behind : List Member
  pub begins : Begins sources d r first at_first behind
  pub leads : GoesOn sources first at_first behind last at_last
