-- The parts of a tree that keep their place in the text.
use Rattle.std.specs.{Prelude.{List, [], ◌∷◌, ◌++◌, map, Option, Some, None}, List.{flat_map}}
use Rattle.fb_laws.specs.Common.{NameUse, Span, Kind, ReferenceTree, Expression, literal_expression, reference_expression, unary_expression, row_expression, parentheses, Expressions, no_expressions, expression_then, Operands, no_operands, operand_then, Statement, empty, assignment, exit, return, choice, selection, count, while_loop, repeat_loop, Statements, no_statements, statement_then, Arms, no_arms, arm_then, ConstantTree, one_value, value_list, EventTree, VariablesTree, InterfaceTree, ParameterTree, InstanceTree, NetworkTree, StateTree, ConditionTree, always, on_event, guarded, guard, TransitionTree, AlgorithmTree, ChartTree, TypeTree, ApplicationTree, ResourceTree, DeviceTree, MappingTree, SystemTree, StructureTree, DeclTree, block_type, adapter_type, subapplication_type, system_configuration, structure_type, Action, Simple, BinaryUse, UnaryUse, TypeUse, Connection, End}
use Rattle.fb_structured_text.specs.Forms.declared.kind.Kind.TheVariants.{Assign, One}
use Rattle.fb_tree.specs.declared.constant.Simple.TheVariants as simple

pub data Part : Type 0 where
  name_part : NameUse → Part
  constant_part : ConstantTree → Part
  type_part : TypeUse → Part
  expression_part : Expression → Part
  -- an operator before an operand, and one between two
  sign_part : UnaryUse → Part
  operator_part : BinaryUse → Part
  -- a word or symbol of a kind
  mark_part : Kind → Span → Part

abbrev pub name_parts : NameUse → List Part
name_parts name = name_part name ∷ []

-- those of what is written, none if nothing is written
abbrev pub option_parts : {A : Type 0} → (A → List Part) → Option A → List Part
option_parts parts None = []
option_parts parts (Some value) = parts value

-- Constants and types

abbrev pub names_in : Simple → List Part
names_in (simple.Literal literal) = []
names_in (simple.Name name) = name_parts name

abbrev pub simple_parts : Simple → List Part
simple_parts value = constant_part (one_value value) ∷ names_in value

abbrev pub constant_parts : ConstantTree → List Part
constant_parts (one_value value) = simple_parts value
constant_parts (value_list values span) = constant_part (value_list values span) ∷ flat_map simple_parts values

abbrev pub type_use_parts : TypeUse → List Part
type_use_parts t = type_part t ∷ name_part t.name ∷ []

-- Interfaces

abbrev pub event_parts : EventTree → List Part
event_parts e = name_part e.name ∷ (option_parts name_parts e.type_name ++ map name_part e.with)

abbrev pub variables_parts : VariablesTree → List Part
variables_parts v =
    map name_part v.names ++ (type_use_parts v.type_use ++ option_parts constant_parts v.initial)

abbrev pub interface_parts : InterfaceTree → List Part
interface_parts i = flat_map event_parts i.events ++ flat_map variables_parts i.variables

-- Networks

abbrev pub parameter_parts : ParameterTree → List Part
parameter_parts p = name_part p.name ∷ constant_parts p.value

abbrev pub instance_parts : InstanceTree → List Part
instance_parts i = name_part i.name ∷ name_part i.type_name ∷ flat_map parameter_parts i.parameters

abbrev pub end_parts : End → List Part
end_parts e = name_part e.name ∷ option_parts name_parts e.port

abbrev pub connection_parts : Connection → List Part
connection_parts c = end_parts c.source ++ end_parts c.destination

abbrev pub network_parts : NetworkTree → List Part
network_parts n = flat_map instance_parts n.instances ++ flat_map connection_parts n.connections

-- Expressions

abbrev pub reference_parts : ReferenceTree → List Part
reference_parts r = name_part r.name ∷ map (λ m. name_part m.name) r.members

abbrev mutual
  pub expression_parts : Expression → List Part
  expression_parts (literal_expression literal) = expression_part (literal_expression literal) ∷ []
  expression_parts (reference_expression reference subscripts) =
      expression_part (reference_expression reference subscripts) ∷ (reference_parts reference ++ expressions_parts subscripts)
  expression_parts (unary_expression sign e) =
      expression_part (unary_expression sign e) ∷ sign_part sign ∷ expression_parts e
  expression_parts (row_expression e operands) =
      expression_part (row_expression e operands) ∷ (expression_parts e ++ operands_parts operands)
  expression_parts (parentheses e span) = expression_part (parentheses e span) ∷ expression_parts e

  pub expressions_parts : Expressions → List Part
  expressions_parts no_expressions = []
  expressions_parts (expression_then e others) = expression_parts e ++ expressions_parts others

  pub operands_parts : Operands → List Part
  operands_parts no_operands = []
  operands_parts (operand_then operator e others) =
      operator_part operator ∷ (expression_parts e ++ operands_parts others)

-- Statements

abbrev mutual
  pub statement_parts : Statement → List Part
  statement_parts empty = []
  -- the variable is an expression, too
  statement_parts (assignment reference subscripts span value) =
      expression_parts (reference_expression reference subscripts) ++ (mark_part Assign span ∷ expression_parts value)
  statement_parts exit = []
  statement_parts return = []
  statement_parts (choice arms otherwise) = arms_parts arms ++ statements_parts otherwise
  statement_parts (selection selector cases otherwise) =
      expression_parts selector ++ (statements_parts cases ++ statements_parts otherwise)
  statement_parts (count variable from to by body) =
      name_part variable ∷ (expression_parts from ++ (expression_parts to ++ (option_parts expression_parts by ++ statements_parts body)))
  statement_parts (while_loop condition body) = expression_parts condition ++ statements_parts body
  statement_parts (repeat_loop body condition) = statements_parts body ++ expression_parts condition

  pub statements_parts : Statements → List Part
  statements_parts no_statements = []
  statements_parts (statement_then s others) = statement_parts s ++ statements_parts others

  pub arms_parts : Arms → List Part
  arms_parts no_arms = []
  arms_parts (arm_then condition body others) =
      (expression_parts condition ++ statements_parts body) ++ arms_parts others

-- Charts

abbrev pub action_parts : Action → List Part
action_parts a = option_parts name_parts a.algorithm ++ option_parts end_parts a.event

abbrev pub state_parts : StateTree → List Part
state_parts s = name_part s.name ∷ flat_map action_parts s.actions

abbrev pub condition_parts : ConditionTree → List Part
condition_parts (always span) = mark_part One span ∷ []
condition_parts (on_event event) = end_parts event
condition_parts (guarded event test) = end_parts event ++ expression_parts test
condition_parts (guard test) = expression_parts test

abbrev pub transition_parts : TransitionTree → List Part
transition_parts t = name_part t.source ∷ name_part t.destination ∷ condition_parts t.condition

abbrev pub algorithm_parts : AlgorithmTree → List Part
algorithm_parts a = name_part a.name ∷ name_part a.language ∷ flat_map statement_parts a.statements

abbrev pub chart_parts : ChartTree → List Part
chart_parts c =
    flat_map state_parts c.states ++ (flat_map transition_parts c.transitions ++ flat_map algorithm_parts c.algorithms)

-- Declarations

abbrev pub declared_parts : TypeTree → List Part
declared_parts t =
    name_part t.name ∷ (interface_parts t.interface ++ (network_parts t.network ++ chart_parts t.chart))

abbrev pub application_parts : ApplicationTree → List Part
application_parts a = name_part a.name ∷ network_parts a.network

abbrev pub resource_parts : ResourceTree → List Part
resource_parts r = name_part r.name ∷ name_part r.type_name ∷ flat_map parameter_parts r.parameters

abbrev pub device_parts : DeviceTree → List Part
device_parts d =
    (name_part d.name ∷ name_part d.type_name ∷ flat_map parameter_parts d.parameters) ++ flat_map resource_parts d.resources

abbrev pub mapping_parts : MappingTree → List Part
mapping_parts m = map name_part m.path ++ name_part m.device ∷ name_part m.resource ∷ []

abbrev pub system_parts : SystemTree → List Part
system_parts s =
    name_part s.name ∷ (flat_map application_parts s.applications ++ (flat_map device_parts s.devices ++ flat_map mapping_parts s.mappings))

abbrev pub structure_parts : StructureTree → List Part
structure_parts s = name_part s.name ∷ flat_map variables_parts s.fields

abbrev pub tree_parts : DeclTree → List Part
tree_parts (block_type t) = declared_parts t
tree_parts (adapter_type t) = declared_parts t
tree_parts (subapplication_type t) = declared_parts t
tree_parts (system_configuration s) = system_parts s
tree_parts (structure_type s) = structure_parts s
