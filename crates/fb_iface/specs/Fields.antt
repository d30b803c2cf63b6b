-- What further names of a reference may name: the fields of structures.
use Rattle.std.specs.{Prelude.{ℕ, List, Option, Some, None, if◌then◌else◌}, List.{flat_map}}
use Rattle.fb_tree.specs.Tree.{DeclTree, StructureTree, block_type, adapter_type, subapplication_type, system_configuration, structure_type}
use Rattle.fb_library.specs.{Near.{bases_at, carried_of}, Seen.{has_name}, View.{Sources, tree_at}}
use Rattle.fb_iface.specs.{Names.{first_ones}, Ports.{DeclaredVariable, variables_together}}

-- what a further name may name after a plain type
pub data Fields : Type 0 where
  NotChecked : Fields
  NoFields : Fields
  HasFields : List (List ℕ × DeclaredVariable) → Fields

-- the fields of a structure, in the order of the text
abbrev pub fields_in : StructureTree → List (List ℕ × DeclaredVariable)
fields_in s = flat_map variables_together s.fields

-- a type that is absent or broken is not checked
abbrev pub fields_of_tree : Option DeclTree → Fields
fields_of_tree None = NotChecked
fields_of_tree (Some (block_type d)) = NoFields
fields_of_tree (Some (adapter_type d)) = NoFields
fields_of_tree (Some (subapplication_type d)) = NoFields
fields_of_tree (Some (system_configuration s)) = NoFields
fields_of_tree (Some (structure_type s)) = HasFields (first_ones (fields_in s))

-- what a further name may name after one of these types; nothing after any other
abbrev pub fields_among : Sources → List (List ℕ) → List ℕ → Fields
fields_among sources types name = if has_name types name then fields_of_tree (tree_at sources name) else NoFields

-- what a further name may name after the types that the unit and its parts carry
abbrev pub fields_near : Sources → List ℕ → List ℕ → Fields
fields_near sources unit = fields_among sources (carried_of sources (bases_at sources unit))
