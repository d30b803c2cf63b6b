-- What units without faults keep of their networks.
use Rattle.std.specs.Prelude.{◌≡◌, ℕ, ◌<◌, List, [], Option, Some, Contains, find, slice_get}
use Rattle.fb_types.specs.{Tree.declared.kinds.UnitKind.{UnitKind}, Library.View.{Sources}, Iface.Names.{is_same}, Network.Clean.{IsClean}}
use Rattle.fb_types.specs.{Network.Plain.{PlainNetwork}, Network.declared.network.Instance.{Instance}, Network.declared.network.InstanceKind.{InstanceKind}}
use Rattle.fb_types.specs.{Network.declared.network.InstanceKind.TheVariants.{Block, Subapplication}, ByName.{applications_at, declared, kind_at}}
use Rattle.fb_types.specs.declared.systems.Application.{Application}
use Rattle.fb_types.specs.Tree.declared.kinds.UnitKind.TheVariants as kinds
use Rattle.fb_faults.specs.Faults.{faults_of}

-- the kind that the type of an instance must have
abbrev pub wanted_kind : InstanceKind → UnitKind
wanted_kind Block = kinds.Block
wanted_kind Subapplication = kinds.Subapplication

-- the network is clean, and the type of each instance has the kind that it must have
pub record IsCleanWithKinds (sources : Sources) (network : PlainNetwork) : Type 0 where
  pub clean : IsClean (declared sources) network
  pub kinds : (i : Instance) → Contains network.instances i → kind_at sources i.type_name ≡ Some (wanted_kind i.kind)

-- the network of a unit without faults is clean
abbrev pub NetworksAreClean : Type 0
NetworksAreClean =
    (sources : Sources) (unit : List ℕ) (network : PlainNetwork)
    → declared sources unit ≡ Some network → faults_of sources unit ≡ [] → IsCleanWithKinds sources network

-- the first application of that name
abbrev pub application_named : List Application → List ℕ → Option Application
application_named applications name = find (λ a. is_same a.name name) applications

-- each application has its own name and a clean network
pub record AreCleanWithKinds (sources : Sources) (applications : List Application) : Type 0 where
  pub apart :
      (i j : ℕ) (a b : Application)
      → i < j → slice_get applications i ≡ Some a → slice_get applications j ≡ Some b → a.name ≡ b.name → ⊥
  pub named : (a : Application) → Contains applications a → application_named applications a.name ≡ Some a
  pub sound : (a : Application) → Contains applications a → IsCleanWithKinds sources a.network

-- the networks of the applications of a system without faults are clean
abbrev pub ApplicationsAreClean : Type 0
ApplicationsAreClean =
    (sources : Sources) (unit : List ℕ) (applications : List Application)
    → applications_at sources unit ≡ Some applications → faults_of sources unit ≡ [] → AreCleanWithKinds sources applications
