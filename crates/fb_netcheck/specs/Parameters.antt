-- Parameters of block instances.
use Rattle.std.specs.{Prelude.{List, [], ◌∷◌, Option, Some, None}, List.{flat_map}}
use Rattle.fb_tree.specs.{Tree.{InstanceTree, ParameterTree}, declared.interface.Section.{Section}}
use Rattle.fb_tree.specs.{declared.interface.Section.TheVariants.{Input, Output, Internal, Field}, declared.interface.TypeUse.{TypeUse}}
use Rattle.fb_tree.specs.declared.network.Role.{Role}
use Rattle.fb_tree.specs.declared.network.Role.TheVariants as roles
use Rattle.fb_iface.specs.{declared.code.Code.TheVariants.{ParameterUnknown}, declared.fault.Fault.{Fault}, Ports.{DeclaredVariable}}
use Rattle.fb_iface.specs.{Fault.{fault_at}, Literals.{constant_faults}, Names.{stands_for}, Ports.{Meanings}, Scope.{Scope}}

-- a value fits the type of its data input
abbrev pub value_faults : Section → TypeUse → ParameterTree → List Fault
value_faults Input used p = constant_faults used p.value
value_faults Output used p = fault_at ParameterUnknown p.name ∷ []
value_faults Internal used p = fault_at ParameterUnknown p.name ∷ []
value_faults Field used p = fault_at ParameterUnknown p.name ∷ []

-- a parameter is a data input
abbrev pub parameter_faults : Option DeclaredVariable → ParameterTree → List Fault
parameter_faults None p = fault_at ParameterUnknown p.name ∷ []
parameter_faults (Some v) p = value_faults v.section v.type_use p

-- the parameters of an instance of a type with these ports; what depends on a type that is not usable is not checked
abbrev pub typed_parameters : Option Meanings → List ParameterTree → List Fault
typed_parameters None parameters = []
typed_parameters (Some m) parameters = flat_map (λ p. parameter_faults (stands_for m.variables p.name.name) p) parameters

-- only the parameters of block instances are checked, not those of plugs, sockets and subapplication instances
abbrev pub judged_parameters : Scope → Role → InstanceTree → List Fault
judged_parameters scope roles.Block i = typed_parameters (scope.type_ports roles.Block i.type_name.name) i.parameters
judged_parameters scope role i = []

abbrev pub instance_parameters : Scope → InstanceTree → List Fault
instance_parameters scope i = judged_parameters scope i.role i

abbrev pub all_parameters : Scope → List InstanceTree → List Fault
all_parameters scope instances = flat_map (instance_parameters scope) instances
