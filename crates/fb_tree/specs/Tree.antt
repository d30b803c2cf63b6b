-- Declarations without their place in memory.
use Rattle.std.specs.Prelude.{Bool, List, map, Option, option_map}
use Rattle.fb_text.specs.{declared.token.Span.{Span}, declared.name.NameUse.{NameUse}}
use Rattle.fb_tree.specs.{Expression.{Expression, expression_tree}, Statement.{Statement, statement_tree}, declared.constant.Simple.{Simple}}
use Rattle.fb_tree.specs.{declared.constant.Constant.{Constant}, declared.interface.Side.{Side}, declared.interface.Section.{Section}}
use Rattle.fb_tree.specs.{declared.interface.TypeUse.{TypeUse}, declared.interface.Event.{Event}, declared.interface.Variables.{Variables}}
use Rattle.fb_tree.specs.{declared.interface.Interface.{Interface}, declared.network.Role.{Role}, declared.network.Parameter.{Parameter}}
use Rattle.fb_tree.specs.{declared.network.Instance.{Instance}, declared.network.End.{End}, declared.network.Connection.{Connection}}
use Rattle.fb_tree.specs.{declared.network.Network.{Network}, declared.chart.Action.{Action}, declared.chart.State.{State}}
use Rattle.fb_tree.specs.{declared.chart.Condition.{Condition}, declared.chart.Transition.{Transition}, declared.chart.Algorithm.{Algorithm}}
use Rattle.fb_tree.specs.{declared.chart.Chart.{Chart}, declared.declaration.TypeDeclaration.{TypeDeclaration}, declared.declaration.Decl.{Decl}}
use Rattle.fb_tree.specs.{declared.system.Application.{Application}, declared.system.Resource.{Resource}, declared.system.Device.{Device}}
use Rattle.fb_tree.specs.{declared.system.Mapping.{Mapping}, declared.system.System.{System}, declared.structure.Structure.{Structure}}
use Rattle.fb_tree.specs.declared.constant.Simple.TheVariants as simple
use Rattle.fb_tree.specs.declared.constant.Constant.TheVariants as constant
use Rattle.fb_tree.specs.declared.chart.Condition.TheVariants as condition
use Rattle.fb_tree.specs.declared.declaration.Decl.TheVariants as declared

pub data ConstantTree : Type 0 where
  one_value : Simple → ConstantTree
  value_list : List Simple → Span → ConstantTree

abbrev pub constant_tree : Constant → ConstantTree
constant_tree (constant.One value) = one_value value
constant_tree (constant.List values span) = value_list values.items span

-- the span of a value in its text
abbrev pub value_span : Simple → Span
value_span (simple.Literal literal) = literal.span
value_span (simple.Name name) = name.span

-- the span of a constant in its text
abbrev pub constant_span : ConstantTree → Span
constant_span (one_value value) = value_span value
constant_span (value_list values span) = span

pub record EventTree : Type 0 where
  pub side : Side
  pub name : NameUse
  pub type_name : Option NameUse
  pub with : List NameUse

abbrev pub event_tree : Event → EventTree
event_tree e = record { side = e.side; name = e.name; type_name = e.type_name; with = e.with.items }

pub record VariablesTree : Type 0 where
  pub section : Section
  pub names : List NameUse
  pub type_use : TypeUse
  pub initial : Option ConstantTree

abbrev pub variables_tree : Variables → VariablesTree
variables_tree v = record { section = v.section; names = v.names.items; type_use = v.type_use; initial = option_map constant_tree v.initial }

pub record InterfaceTree : Type 0 where
  pub events : List EventTree
  pub variables : List VariablesTree

abbrev pub interface_tree : Interface → InterfaceTree
interface_tree i = record { events = map event_tree i.events.items; variables = map variables_tree i.variables.items }

pub record ParameterTree : Type 0 where
  pub name : NameUse
  pub value : ConstantTree

abbrev pub parameter_tree : Parameter → ParameterTree
parameter_tree p = record { name = p.name; value = constant_tree p.value }

pub record InstanceTree : Type 0 where
  pub role : Role
  pub name : NameUse
  pub type_name : NameUse
  pub parameters : List ParameterTree

abbrev pub instance_tree : Instance → InstanceTree
instance_tree i = record { role = i.role; name = i.name; type_name = i.type_name; parameters = map parameter_tree i.parameters.items }

-- the instances, plugs and sockets among them, the connections, and whether a section of block instances or of connections was written
pub record NetworkTree : Type 0 where
  pub instances : List InstanceTree
  pub connections : List Connection
  pub is_written : Bool

abbrev pub network_tree : Network → NetworkTree
network_tree n = record { instances = map instance_tree n.instances.items; connections = n.connections.items; is_written = n.is_written }

pub record StateTree : Type 0 where
  pub name : NameUse
  pub actions : List Action

abbrev pub state_tree : State → StateTree
state_tree s = record { name = s.name; actions = s.actions.items }

pub data ConditionTree : Type 0 where
  always : Span → ConditionTree
  on_event : End → ConditionTree
  guarded : End → Expression → ConditionTree
  guard : Expression → ConditionTree

abbrev pub condition_tree : Condition → ConditionTree
condition_tree (condition.Always span) = always span
condition_tree (condition.Event event) = on_event event
condition_tree (condition.Guarded event test) = guarded event (expression_tree test)
condition_tree (condition.Guard test) = guard (expression_tree test)

pub record TransitionTree : Type 0 where
  pub source : NameUse
  pub destination : NameUse
  pub condition : ConditionTree

abbrev pub transition_tree : Transition → TransitionTree
transition_tree t = record { source = t.source; destination = t.destination; condition = condition_tree t.condition }

pub record AlgorithmTree : Type 0 where
  pub name : NameUse
  pub language : NameUse
  pub statements : List Statement

abbrev pub algorithm_tree : Algorithm → AlgorithmTree
algorithm_tree a = record { name = a.name; language = a.language; statements = map statement_tree a.statements.items }

-- the states, transitions and algorithms, and whether a section of states was written
pub record ChartTree : Type 0 where
  pub states : List StateTree
  pub transitions : List TransitionTree
  pub algorithms : List AlgorithmTree
  pub is_written : Bool

abbrev pub chart_tree : Chart → ChartTree
chart_tree c = record { states = map state_tree c.states.items; transitions = map transition_tree c.transitions.items; algorithms = map algorithm_tree c.algorithms.items; is_written = c.is_written }

-- the declaration of a type
pub record TypeTree : Type 0 where
  pub name : NameUse
  pub interface : InterfaceTree
  pub network : NetworkTree
  pub chart : ChartTree

abbrev pub type_tree : TypeDeclaration → TypeTree
type_tree d = record { name = d.name; interface = interface_tree d.interface; network = network_tree d.network; chart = chart_tree d.chart }

pub record ApplicationTree : Type 0 where
  pub name : NameUse
  pub network : NetworkTree

abbrev pub application_tree : Application → ApplicationTree
application_tree a = record { name = a.name; network = network_tree a.network }

pub record ResourceTree : Type 0 where
  pub name : NameUse
  pub type_name : NameUse
  pub parameters : List ParameterTree

abbrev pub resource_tree : Resource → ResourceTree
resource_tree r = record { name = r.name; type_name = r.type_name; parameters = map parameter_tree r.parameters.items }

pub record DeviceTree : Type 0 where
  pub name : NameUse
  pub type_name : NameUse
  pub parameters : List ParameterTree
  pub resources : List ResourceTree

abbrev pub device_tree : Device → DeviceTree
device_tree d = record { name = d.name; type_name = d.type_name; parameters = map parameter_tree d.parameters.items; resources = map resource_tree d.resources.items }

pub record MappingTree : Type 0 where
  pub path : List NameUse
  pub device : NameUse
  pub resource : NameUse

abbrev pub mapping_tree : Mapping → MappingTree
mapping_tree m = record { path = m.path.items; device = m.device; resource = m.resource }

pub record SystemTree : Type 0 where
  pub name : NameUse
  pub applications : List ApplicationTree
  pub devices : List DeviceTree
  pub mappings : List MappingTree

abbrev pub system_tree : System → SystemTree
system_tree s = record { name = s.name; applications = map application_tree s.applications.items; devices = map device_tree s.devices.items; mappings = map mapping_tree s.mappings.items }

-- the declaration of a structure
pub record StructureTree : Type 0 where
  pub name : NameUse
  pub fields : List VariablesTree

abbrev pub structure_tree : Structure → StructureTree
structure_tree s = record { name = s.name; fields = map variables_tree s.fields.items }

pub data DeclTree : Type 0 where
  block_type : TypeTree → DeclTree
  adapter_type : TypeTree → DeclTree
  subapplication_type : TypeTree → DeclTree
  system_configuration : SystemTree → DeclTree
  structure_type : StructureTree → DeclTree

abbrev pub decl_tree : Decl → DeclTree
decl_tree (declared.Block d) = block_type (type_tree d)
decl_tree (declared.Adapter d) = adapter_type (type_tree d)
decl_tree (declared.Subapplication d) = subapplication_type (type_tree d)
decl_tree (declared.System s) = system_configuration (system_tree s)
decl_tree (declared.Structure s) = structure_type (structure_tree s)
