-- What kind a declaration is of, and which types it mentions.
use Rattle.std.specs.{Prelude.{ℕ, Bool, true, false, not, List, [], map, filter}, List.{flat_map}}
use Rattle.fb_text.specs.{Elementary.{is_elementary}, Order.{names_in_order}}
use Rattle.fb_tree.specs.Tree.{DeclTree, block_type, adapter_type, subapplication_type, system_configuration, structure_type, InstanceTree, VariablesTree}
use Rattle.fb_tree.specs.declared.mentioned.Mentions.{Mentions}
use Rattle.fb_tree.specs.{declared.kinds.UnitKind.{UnitKind}, declared.kinds.UnitKind.TheVariants.{Block, Adapter, Subapplication, System, Structure}}

abbrev pub unit_kind_of : DeclTree → UnitKind
unit_kind_of (block_type d) = Block
unit_kind_of (adapter_type d) = Adapter
unit_kind_of (subapplication_type d) = Subapplication
unit_kind_of (system_configuration s) = System
unit_kind_of (structure_type s) = Structure

abbrev pub is_structure_tree : DeclTree → Bool
is_structure_tree (block_type d) = false
is_structure_tree (adapter_type d) = false
is_structure_tree (subapplication_type d) = false
is_structure_tree (system_configuration s) = false
is_structure_tree (structure_type s) = true

-- Mentions as a part: the types of instances, plugs and sockets

-- the type name of each instance
abbrev pub types_in : List InstanceTree → List (List ℕ)
types_in instances = map (λ i. i.type_name.name) instances

-- the type names of all instances, plugs and sockets, in the order of the text
abbrev pub instance_types : DeclTree → List (List ℕ)
instance_types (block_type d) = types_in d.network.instances
instance_types (adapter_type d) = types_in d.network.instances
instance_types (subapplication_type d) = types_in d.network.instances
instance_types (system_configuration s) = flat_map (λ a. types_in a.network.instances) s.applications
instance_types (structure_type s) = []

-- these types in the order of their bytes, each once
abbrev pub parts_of : DeclTree → List (List ℕ)
parts_of decl = names_in_order (instance_types decl)

-- Mentions as a type of values: the types of variables and fields

-- the type names of variables or fields, in the order of the text; one for all that are declared together
abbrev pub variable_types : List VariablesTree → List (List ℕ)
variable_types groups = map (λ v. v.type_use.name.name) groups

abbrev pub value_types : DeclTree → List (List ℕ)
value_types (block_type d) = variable_types d.interface.variables
value_types (adapter_type d) = variable_types d.interface.variables
value_types (subapplication_type d) = variable_types d.interface.variables
value_types (system_configuration s) = []
value_types (structure_type s) = variable_types s.fields

-- those that are not elementary, in the order of their bytes, each once
abbrev pub values_of : DeclTree → List (List ℕ)
values_of decl = names_in_order (filter (λ name. not (is_elementary name)) (value_types decl))

-- Both

-- what a unit mentions, of both sorts, and whether it is a structure
pub record Mentioned : Type 0 where
  pub parts : List (List ℕ)
  pub of_values : List (List ℕ)
  pub is_structure : Bool

abbrev pub nothing_mentioned : Mentioned
nothing_mentioned = record { parts = []; of_values = []; is_structure = false }

abbrev pub all_mentions_of : DeclTree → Mentioned
all_mentions_of decl = record { parts = parts_of decl; of_values = values_of decl; is_structure = is_structure_tree decl }

-- mentions without their place in memory
abbrev pub mentioned : Mentions → Mentioned
mentioned m = record { parts = m.parts.items; of_values = m.of_values.items; is_structure = m.is_structure }
