-- The name spaces of units.
use Rattle.std.specs.Prelude.{◌≡◌, List, Contains, flat_map, map}
use Rattle.fb_laws.specs.Common.{NameUse, AlgorithmTree, ApplicationTree, DeclTree, DeviceTree, EventTree, InstanceTree, ParameterTree, ResourceTree, StateTree, StructureTree, SystemTree, TypeTree, VariablesTree, structure_type, system_configuration, Block}
use Rattle.fb_laws.specs.Declared.{IsHeldIn, IsType}

-- The names of one space, in the order of the text. Of a type: events; variables of all sections; plugs, sockets and instances; states; algorithms.
-- Of a structure: fields. Of a system: applications; instances, by application; devices; resources, by device. And the parameters of one block
-- instance.
pub data IsSpace : DeclTree → List NameUse → Type 0 where
  events : {decl : DeclTree} {type : TypeTree} → IsType decl type
      → IsSpace decl (map (λ (e : EventTree). e.name) type.interface.events)
  variables : {decl : DeclTree} {type : TypeTree} → IsType decl type
      → IsSpace decl (flat_map (λ (v : VariablesTree). v.names) type.interface.variables)
  instances : {decl : DeclTree} {type : TypeTree} → IsType decl type
      → IsSpace decl (map (λ (i : InstanceTree). i.name) type.network.instances)
  states : {decl : DeclTree} {type : TypeTree} → IsType decl type
      → IsSpace decl (map (λ (s : StateTree). s.name) type.chart.states)
  algorithms : {decl : DeclTree} {type : TypeTree} → IsType decl type
      → IsSpace decl (map (λ (a : AlgorithmTree). a.name) type.chart.algorithms)
  fields : (s : StructureTree) → IsSpace (structure_type s) (flat_map (λ (v : VariablesTree). v.names) s.fields)
  applications : (s : SystemTree)
      → IsSpace (system_configuration s) (map (λ (a : ApplicationTree). a.name) s.applications)
  instances_of_application : {s : SystemTree} {application : ApplicationTree} → Contains s.applications application
      → IsSpace (system_configuration s) (map (λ (i : InstanceTree). i.name) application.network.instances)
  devices : (s : SystemTree) → IsSpace (system_configuration s) (map (λ (d : DeviceTree). d.name) s.devices)
  resources : {s : SystemTree} {device : DeviceTree} → Contains s.devices device
      → IsSpace (system_configuration s) (map (λ (r : ResourceTree). r.name) device.resources)
  parameters : {decl : DeclTree} {instance : InstanceTree} → IsHeldIn decl instance → instance.role ≡ Block
      → IsSpace decl (map (λ (p : ParameterTree). p.name) instance.parameters)
