-- What a unit is made of, what it holds, and what of both keeps it from having a flat network.
use Rattle.std.specs.{Prelude.{◌≡◌, ◌≢◌, ◌↔◌, ℕ, false, List, [], Some, None, Contains}, FinMap.{get}}
use Rattle.fb_laws.specs.Common.{is_elementary, DeclTree, InstanceTree, VariablesTree, Sources, faults_of, IsWhole, PlainNet, blocked, recursive, net_at}
use Rattle.fb_laws.specs.{Declarations.{IsDeclaredAt}, Declared.{AreDeclaredIn, IsHeldIn}}

-- A unit is made of itself; of the type of each instance, plug and socket in what it is made of; and of the type of each variable or field in
-- that, but for elementary ones. This grows by one declaration at its end. A name of these need not be that of a unit.
pub data IsMadeOf (sources : Sources) (unit : List ℕ) : List ℕ → Type 0 where
  own_unit : IsMadeOf sources unit unit
  type_of_part :
      {holder : List ℕ} (decl : DeclTree) (instance : InstanceTree)
      → IsMadeOf sources unit holder → IsDeclaredAt sources holder decl → IsHeldIn decl instance
      → IsMadeOf sources unit instance.type_name.name
  type_of_value :
      {holder : List ℕ} (decl : DeclTree) (variables : VariablesTree)
      → IsMadeOf sources unit holder → IsDeclaredAt sources holder decl → AreDeclaredIn decl variables
      → is_elementary variables.type_use.name.name ≡ false
      → IsMadeOf sources unit variables.type_use.name.name

-- What a unit holds: the types of its instances, plugs and sockets, and of those in what it holds. This grows by one of them at its end.
pub data Holds (sources : Sources) (unit : List ℕ) : List ℕ → Type 0 where
  own_part :
      (decl : DeclTree) (instance : InstanceTree)
      → IsDeclaredAt sources unit decl → IsHeldIn decl instance
      → Holds sources unit instance.type_name.name
  inner_part :
      {holder : List ℕ} (decl : DeclTree) (instance : InstanceTree)
      → Holds sources unit holder → IsDeclaredAt sources holder decl → IsHeldIn decl instance
      → Holds sources unit instance.type_name.name

-- nothing that the unit is made of has a fault
abbrev pub HasNoFaultsBelow : Sources → List ℕ → Type 0
HasNoFaultsBelow sources unit = (name : List ℕ) → IsMadeOf sources unit name → faults_of sources name ≡ []

-- something that the unit is made of has a fault
pub record HasFaultBelow (sources : Sources) (unit : List ℕ) : Type 0 where
  pub name : List ℕ
  pub below : IsMadeOf sources unit name
  pub faulty : faults_of sources name ≢ []

-- nothing blocks a unit exactly if nothing that it is made of has a fault
abbrev pub WholeUnitsHaveNoFaultsBelow : Type 0
WholeUnitsHaveNoFaultsBelow = (sources : Sources) (unit : List ℕ) → IsWhole sources unit ↔ HasNoFaultsBelow sources unit

-- ---- nets

-- The name is in the way of a flat network: the unit is made of it, and it has faults; or it is the type of an instance, plug or socket in what
-- the unit is made of, and is absent. The type of a value may be absent.
pub data IsInTheWay (sources : Sources) (unit : List ℕ) : List ℕ → Type 0 where
  faulty_unit : {name : List ℕ} → IsMadeOf sources unit name → faults_of sources name ≢ [] → IsInTheWay sources unit name
  absent_type :
      {holder : List ℕ} (decl : DeclTree) (instance : InstanceTree)
      → IsMadeOf sources unit holder → IsDeclaredAt sources holder decl → IsHeldIn decl instance
      → get sources instance.type_name.name ≡ None
      → IsInTheWay sources unit instance.type_name.name

-- a net that is blocked names exactly what is in the way
abbrev pub BlockedIsTold : Type 0
BlockedIsTold =
    (sources : Sources) (unit : List ℕ) (names : List (List ℕ)) → net_at sources unit ≡ Some (blocked names)
    → (name : List ℕ) → Contains names name ↔ IsInTheWay sources unit name

-- and something that its unit is made of has a fault
abbrev pub BlockedUnitsHaveFaultsBelow : Type 0
BlockedUnitsHaveFaultsBelow =
    (sources : Sources) (unit : List ℕ) (names : List (List ℕ)) → net_at sources unit ≡ Some (blocked names)
    → HasFaultBelow sources unit

-- where a net is of another sort, nothing that its unit is made of has one
abbrev pub OtherNetsHaveNoFaultsBelow : Type 0
OtherNetsHaveNoFaultsBelow =
    (sources : Sources) (unit : List ℕ) (net : PlainNet) → net_at sources unit ≡ Some net
    → ((names : List (List ℕ)) → net ≢ blocked names) → HasNoFaultsBelow sources unit

-- a recursive net names exactly what its unit is made of that holds itself
abbrev pub RecursiveIsTold : Type 0
RecursiveIsTold =
    (sources : Sources) (unit : List ℕ) (names : List (List ℕ)) → net_at sources unit ≡ Some (recursive names)
    → (name : List ℕ) → Contains names name ↔ (IsMadeOf sources unit name × Holds sources name name)

-- where a net is neither blocked nor recursive, nothing that its unit is made of holds itself
abbrev pub OtherNetsHoldNothingInItself : Type 0
OtherNetsHoldNothingInItself =
    (sources : Sources) (unit : List ℕ) (net : PlainNet) → net_at sources unit ≡ Some net
    → ((names : List (List ℕ)) → net ≢ blocked names) → ((names : List (List ℕ)) → net ≢ recursive names)
    → (name : List ℕ) → IsMadeOf sources unit name → ¬ Holds sources name name
