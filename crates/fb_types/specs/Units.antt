-- The instances of a unit, and its flat network (IEC 61499-1, 5.4: subapplication types; 7: systems).
use Rattle.std.specs.Prelude.{ℕ, ◌≡◌, ◌≤◌, ◌<◌, ◌⊎◌, Bool, true, false, List, [], ◌∷◌, Option, None, Some, flat_map, length}
use Rattle.fb_tree.specs.Tree.{DeclTree, block_type, adapter_type, subapplication_type, system_configuration, structure_type}
use Rattle.fb_tree.specs.declared.kinds.UnitKind.TheVariants.{Subapplication, System}
use Rattle.fb_iface.specs.Library.View.{Sources, tree_at}
use Rattle.fb_network.specs.{declared.flat.count.TheConstants.{INSTANCE_LIMIT}, declared.network.Instance.{Instance}, Plain.{PlainNetwork}, PlainFlat.{PlainFlat}}
use Rattle.fb_network.specs.{Network.{View}, Instances.{Held, AreInstances}, FlatNet.{IsFlat}, SystemFlat.{IsSystemFlat}}
use Rattle.fb_network.specs.declared.flat.application.FlatApplication.{FlatApplication}
use Rattle.fb_types.specs.{Applications.{applications_of}, ByName.{applications_at, declared, kind_at}, Networks.{network_of}}
use Rattle.fb_types.specs.declared.systems.Application.{Application}

-- subapplications and systems have flat networks
abbrev pub HasNet : Sources → List ℕ → Type 0
HasNet sources unit = (kind_at sources unit ≡ Some Subapplication) ⊎ (kind_at sources unit ≡ Some System)

abbrev pub has_net_tree : DeclTree → Bool
has_net_tree (block_type d) = false
has_net_tree (adapter_type d) = false
has_net_tree (subapplication_type d) = true
has_net_tree (system_configuration s) = true
has_net_tree (structure_type s) = false

-- whether a unit with this tree, or with none, has a net
abbrev pub has_net_in : Option DeclTree → Bool
has_net_in None = false
has_net_in (Some tree) = has_net_tree tree

abbrev pub instances_in : List Application → List Instance
instances_in applications = flat_map (λ a. a.network.instances) applications

-- the instances that a unit declares; for a system those of all its applications
abbrev pub own_instances : DeclTree → List Instance
own_instances (block_type d) = []
own_instances (adapter_type d) = []
own_instances (subapplication_type d) = (network_of (subapplication_type d)).instances
own_instances (system_configuration s) = instances_in (applications_of (system_configuration s))
own_instances (structure_type s) = []

-- the instances of the unit, of all depths
pub record Holds (sources : Sources) (unit : List ℕ) (held : List Held) : Type 0 where
  pub tree : DeclTree
  pub present : tree_at sources unit ≡ Some tree
  pub instances : AreInstances (declared sources) (own_instances tree) held

-- the unit has more instances than the limit
pub record IsTooLarge (sources : Sources) (unit : List ℕ) : Type 0 where
  pub held : List Held
  pub holds : Holds sources unit held
  pub more : INSTANCE_LIMIT < length held

-- the instances of the unit are within the limit
pub record IsWithinLimit (sources : Sources) (unit : List ℕ) : Type 0 where
  pub held : List Held
  pub holds : Holds sources unit held
  pub within : length held ≤ INSTANCE_LIMIT

-- the flat network of an application, under its name
pub record IsFlatApplication (view : View) (application : Application) (flat : FlatApplication) : Type 0 where
  pub name : flat.name ≡ application.name
  pub net : IsFlat view application.network flat.flat

-- one flat network for each application, in the same order
pub data AreFlatApplications (view : View) : List Application → List FlatApplication → Type 0 where
  NoApplication : AreFlatApplications view [] []
  ThenApplication :
      {rest : List Application} {others : List FlatApplication} (application : Application) (flat : FlatApplication)
      → IsFlatApplication view application flat → AreFlatApplications view rest others
      → AreFlatApplications view (application ∷ rest) (flat ∷ others)

-- the flat network of a unit: of its network, or of its applications together
pub data IsUnitFlat (sources : Sources) (unit : List ℕ) (flat : PlainFlat) : Type 0 where
  OfSubapplication :
      (network : PlainNetwork) → kind_at sources unit ≡ Some Subapplication → declared sources unit ≡ Some network
      → IsFlat (declared sources) network flat → IsUnitFlat sources unit flat
  OfSystem :
      (applications : List Application) (flats : List FlatApplication)
      → kind_at sources unit ≡ Some System → applications_at sources unit ≡ Some applications
      → AreFlatApplications (declared sources) applications flats → IsSystemFlat flats flat
      → IsUnitFlat sources unit flat
