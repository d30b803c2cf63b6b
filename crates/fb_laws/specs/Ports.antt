-- The ports of a unit in other words: which ports its interface lists, and in which order.
use Rattle.std.specs.Prelude.{◌≡◌, ◌↔◌, ℕ, ◌<◌, List, [], Some, Contains, slice_get}
use Rattle.fb_laws.specs.Common.{DeclTree, NetworkTree, StructureTree, SystemTree, TypeTree, structure_type, system_configuration, Side, TypeUse, Role, tree_of, DeclaredEvent, DeclaredInstance, DeclaredVariable, stands_for, Meanings, data_on, events_on, instances_as, meanings_in, meanings_in_network, meanings_of}
use Rattle.fb_laws.specs.Declared.{IsBefore, IsDataOn, IsEventOn, IsFirstEvent, IsFirstInstance, IsFirstVariable, IsInstanceAs, IsType, IsVariableIn}
use Rattle.fb_tree.specs.declared.interface.Section.TheVariants as sections

-- a text has an interface exactly if it spells a unit: that of the unit
abbrev pub WholeTextsHaveInterfaces : Type 0
WholeTextsHaveInterfaces = (text : List ℕ) (ports : Meanings)
    → meanings_of text ≡ Some ports ↔ ((decl : DeclTree) × (tree_of text ≡ Some decl) × (ports ≡ meanings_in decl))

-- ---- which ports there are

-- the list has exactly these ports
abbrev pub AreExactly : {T : Type 0} → List (List ℕ × T) → (List ℕ → T → Type 0) → Type 0
AreExactly {T = T} ports IsPort = (name : List ℕ) (type : T) → Contains ports (name, type) ↔ IsPort name type

-- the event inputs (EVENT_INPUT) and the event outputs (EVENT_OUTPUT) of a type
abbrev pub EventsAreDeclared : Type 0
EventsAreDeclared = (decl : DeclTree) (type : TypeTree) → IsType decl type → (side : Side)
    → AreExactly (events_on side (meanings_in decl)) (IsEventOn type.interface side)

-- the data inputs (VAR_INPUT) and the data outputs (VAR_OUTPUT) of a type
abbrev pub DataAreDeclared : Type 0
DataAreDeclared = (decl : DeclTree) (type : TypeTree) → IsType decl type → (side : Side)
    → AreExactly (data_on side (meanings_in decl)) (IsDataOn type.interface side)

-- the plugs (PLUGS) and the sockets (SOCKETS) of a type, and its instances in other roles (FBS, SUBAPPS)
abbrev pub AdaptersAreDeclared : Type 0
AdaptersAreDeclared = (decl : DeclTree) (type : TypeTree) → IsType decl type → (role : Role)
    → AreExactly (instances_as role (meanings_in decl)) (IsInstanceAs type.network role)

-- a name that an internal variable has first is no data input and no data output, even if one of this name is declared after it
abbrev pub InternalVariablesAreNoPorts : Type 0
InternalVariablesAreNoPorts = (decl : DeclTree) (type : TypeTree) → IsType decl type
    → (name : List ℕ) (type_use : TypeUse)
    → IsVariableIn type.interface sections.Internal name type_use → (side : Side) (other : TypeUse)
    → ¬ Contains (data_on side (meanings_in decl)) (name, other)

-- ---- what names mean

-- a name means its first declaration in its name space, on any side, in any section and in any role
pub record StandForFirst (type : TypeTree) (ports : Meanings) : Type 0 where
  pub of_events : (name : List ℕ) (e : DeclaredEvent)
      → stands_for ports.events name ≡ Some e ↔ IsEventOn type.interface e.side name e.type_name
  pub of_variables : (name : List ℕ) (v : DeclaredVariable)
      → stands_for ports.variables name ≡ Some v ↔ IsVariableIn type.interface v.section name v.type_use
  pub of_instances : (name : List ℕ) (i : DeclaredInstance)
      → stands_for ports.instances name ≡ Some i ↔ IsInstanceAs type.network i.role name i.type_name

abbrev pub NamesStandForFirst : Type 0
NamesStandForFirst = (decl : DeclTree) (type : TypeTree) → IsType decl type
    → StandForFirst type (meanings_in decl)

-- in the network of an application, which has no ports, a name means its first instance, in any role
abbrev pub InstancesStandForFirst : Type 0
InstancesStandForFirst = (network : NetworkTree) (name : List ℕ) (i : DeclaredInstance)
    → stands_for (meanings_in_network network).instances name ≡ Some i
    ↔ IsInstanceAs network i.role name i.type_name

-- ---- once, and in the order of the text

-- no name occurs at two places of the list
abbrev pub HaveOwnNames : {T : Type 0} → List (List ℕ × T) → Type 0
HaveOwnNames {T = T} ports = (i j : ℕ) (one other : List ℕ × T) → slice_get ports i ≡ Some one
    → slice_get ports j ≡ Some other → one.0 ≡ other.0 → i ≡ j

-- each list has a name once at most
pub record HaveOwnNamesEach (ports : Meanings) : Type 0 where
  pub of_events : (side : Side) → HaveOwnNames (events_on side ports)
  pub of_data : (side : Side) → HaveOwnNames (data_on side ports)
  pub of_adapters : (role : Role) → HaveOwnNames (instances_as role ports)

abbrev pub PortsHaveOwnNames : Type 0
PortsHaveOwnNames = (decl : DeclTree) → HaveOwnNamesEach (meanings_in decl)

-- one name is declared first at a place, and the other at a later one
pub record IsDeclaredBefore {P : Type 0} (IsFirst : List ℕ → P → Type 0) (IsEarlier : P → P → Type 0) (one other : List ℕ) : Type 0 where
  pub place : P
  pub later : P
  pub declared : IsFirst one place
  pub other_declared : IsFirst other later
  pub earlier : IsEarlier place later

-- of two ports of the list, that which is declared first comes first
abbrev pub ComeAsDeclared : {T P : Type 0} → List (List ℕ × T) → (List ℕ → P → Type 0)
    → (P → P → Type 0) → Type 0
ComeAsDeclared {T = T} ports IsFirst IsEarlier = (i j : ℕ) (one other : List ℕ × T) → i < j
    → slice_get ports i ≡ Some one → slice_get ports j ≡ Some other
    → IsDeclaredBefore IsFirst IsEarlier one.0 other.0

-- each list is in the order of the text
pub record ComeAsDeclaredEach (type : TypeTree) (ports : Meanings) : Type 0 where
  pub of_events : (side : Side)
      → ComeAsDeclared (events_on side ports) (IsFirstEvent type.interface) (λ place later. place < later)
  pub of_data : (side : Side) → ComeAsDeclared (data_on side ports) (IsFirstVariable type.interface) IsBefore
  pub of_adapters : (role : Role)
      → ComeAsDeclared (instances_as role ports) (IsFirstInstance type.network) (λ place later. place < later)

abbrev pub PortsComeAsDeclared : Type 0
PortsComeAsDeclared = (decl : DeclTree) (type : TypeTree) → IsType decl type
    → ComeAsDeclaredEach type (meanings_in decl)

-- ---- systems, and structures

-- all lists are empty
pub record AreNone (ports : Meanings) : Type 0 where
  pub of_events : (side : Side) → events_on side ports ≡ []
  pub of_data : (side : Side) → data_on side ports ≡ []
  pub of_adapters : (role : Role) → instances_as role ports ≡ []

-- a system has neither ports nor instances of its own: its instances are those of its applications
abbrev pub SystemsHaveNoPorts : Type 0
SystemsHaveNoPorts = (s : SystemTree) → AreNone (meanings_in (system_configuration s))

-- a structure has neither ports nor instances: its fields are data of no side
abbrev pub StructuresHaveNoPorts : Type 0
StructuresHaveNoPorts = (s : StructureTree) → AreNone (meanings_in (structure_type s))
