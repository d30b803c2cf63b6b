-- The types of instances, plugs and sockets.
use Rattle.std.specs.{Prelude.{Bool, true, false, List, [], ◌∷◌, Option, Some, None, if◌then◌else◌}, List.{flat_map}}
use Rattle.fb_tree.specs.{Text.declared.name.NameUse.{NameUse}, Mentions.{unit_kind_of}}
use Rattle.fb_tree.specs.Tree.{DeclTree, InstanceTree, block_type, adapter_type, subapplication_type, system_configuration, structure_type}
use Rattle.fb_tree.specs.{declared.kinds.UnitKind.{UnitKind}, declared.network.Role.{Role}}
use Rattle.fb_tree.specs.declared.kinds.UnitKind.TheVariants as kinds
use Rattle.fb_tree.specs.declared.network.Role.TheVariants as roles
use Rattle.fb_library.specs.View.{Sources, tree_at}
use Rattle.fb_iface.specs.{declared.code.Code.TheVariants.{UnknownType, WrongKind}, declared.fault.Fault.{Fault}, Fault.{fault_at}}

-- the instances of a unit, plugs and sockets among them
abbrev pub instances_of : DeclTree → List InstanceTree
instances_of (block_type d) = d.network.instances
instances_of (adapter_type d) = d.network.instances
instances_of (subapplication_type d) = d.network.instances
instances_of (system_configuration s) = flat_map (λ a. a.network.instances) s.applications
instances_of (structure_type s) = []

-- a plug or a socket has an adapter type, and any other instance a type of the kind that its section requires
abbrev pub suits : Role → UnitKind → Bool
suits roles.Plug kinds.Adapter = true
suits roles.Socket kinds.Adapter = true
suits roles.Block kinds.Block = true
suits roles.Subapplication kinds.Subapplication = true
suits role kind = false

-- the fault of an instance's type, if this is declared under its name
abbrev pub type_fault : Role → NameUse → Option DeclTree → List Fault
type_fault role name None = fault_at UnknownType name ∷ []
type_fault role name (Some decl) = if suits role (unit_kind_of decl) then [] else fault_at WrongKind name ∷ []

abbrev pub instance_faults : Sources → InstanceTree → List Fault
instance_faults sources i = type_fault i.role i.type_name (tree_at sources i.type_name.name)

-- each type is present, not broken, and of the kind that its section requires
abbrev pub type_faults : Sources → DeclTree → List Fault
type_faults sources decl = flat_map (instance_faults sources) (instances_of decl)
