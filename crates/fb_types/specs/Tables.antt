-- Networks, counts and flat networks of the names of an order.
use Rattle.std.specs.{Prelude.{ℕ, ◌≡◌, ◌≢◌, ◌≤◌, ◌+◌, Bool, true, false, not, ◌&&◌, List, Option, Some, None, Contains, length, min}, Option.{option_or}}
use Rattle.std.specs.BTreeMap.{is_at}
use Rattle.fb_tree.specs.{Text.Order.{name_cmp}, Tree.{DeclTree, block_type, adapter_type, subapplication_type, system_configuration, structure_type}}
use Rattle.fb_tree.specs.declared.kinds.UnitKind.TheVariants as kinds
use Rattle.fb_iface.specs.Library.View.{Sources, tree_at}
use Rattle.fb_network.specs.{declared.flat.count.TheConstants.{INSTANCE_LIMIT}, declared.network.Port.{Port}, Plain.{PlainNetwork}, PlainFlat.{PlainFlat}}
use Rattle.fb_network.specs.{Network.{View}, Instances.{Held, AreInstances}, Clean.{IsCleanThroughout}, Part.{IsFlatInWhole, SameAdapters}}
use Rattle.fb_network.specs.{Ready.{Nets, IsFinished, AreFinished}, SystemFlat.{IsSystemFlat}, declared.flat.application.FlatApplication.{FlatApplication}}
use Rattle.fb_types.specs.{Counts.{IsCounted}, ByName.{declared, kind_at}, declared.systems.Application.{Application}, Hints.{flat_of_hint, is_whole_hint}}
use Rattle.fb_types.specs.{Net.{PlainNet}, Units.{AreFlatApplications, Holds, IsFlatApplication}}

-- ---- networks

-- what the table has is what the texts declare
abbrev pub IsDeclaredIn : Sources → View → Type 0
IsDeclaredIn sources table = (name : List ℕ) (network : PlainNetwork) → table name ≡ Some network → declared sources name ≡ Some network

-- the table has the network of the name
abbrev pub Has : Sources → View → List ℕ → Type 0
Has sources table name = (network : PlainNetwork) → declared sources name ≡ Some network → table name ≡ Some network

-- the table has the network of the adapter of a port, if the port has one
abbrev pub HasAdapter : Sources → View → Option (List ℕ) → Type 0
HasAdapter sources table adapter = (name : List ℕ) → adapter ≡ Some name → Has sources table name

-- the table has the networks of the adapters of these ports
abbrev pub HasAdapters : Sources → View → List Port → Type 0
HasAdapters sources table ports = (port : Port) → Contains ports port → HasAdapter sources table port.adapter

-- the new table is right, and has all that the old one has
pub record Grows (sources : Sources) (old new : View) : Type 0 where
  pub is_true : IsDeclaredIn sources new
  pub keeps : (name : List ℕ) → Has sources old name → Has sources new name

-- the table has the network of the type, and those of the adapters of its ports
pub record HasType (sources : Sources) (table : View) (name : List ℕ) : Type 0 where
  pub network : Has sources table name
  pub adapters : (network : PlainNetwork) → declared sources name ≡ Some network → HasAdapters sources table network.ports

pub record IsTable (sources : Sources) (table : View) (names : List (List ℕ)) : Type 0 where
  pub is_true : IsDeclaredIn sources table
  pub types : (name : List ℕ) → Contains names name → HasType sources table name

-- ---- counts

-- the subapplications among these names are counted
abbrev pub AllCounted : Sources → (List ℕ → Option ℕ) → List (List ℕ) → Type 0
AllCounted sources counts names =
    (name : List ℕ) → Contains names name → kind_at sources name ≡ Some kinds.Subapplication → IsCounted (declared sources) counts name

-- each other name has what it had
abbrev pub SameOthers : {X : Type 0} → (List ℕ → Option X) → (List ℕ → Option X) → List ℕ → Type 0
SameOthers old new name = (other : List ℕ) → other ≢ name → new other ≡ old other

-- the number of instances of a unit, of all depths, up to one past the limit
pub record IsUnitCount (sources : Sources) (unit : List ℕ) (count : ℕ) : Type 0 where
  pub held : List Held
  pub holds : Holds sources unit held
  pub count_is : count ≡ min (length held) (INSTANCE_LIMIT + 1)

-- the number of instances of the type is within the limit
pub record IsSmallType (view : View) (name : List ℕ) : Type 0 where
  pub network : PlainNetwork
  pub declared : view name ≡ Some network
  pub held : List Held
  pub instances : AreInstances view network.instances held
  pub within : length held ≤ INSTANCE_LIMIT

-- ---- flat networks

-- the flat network that is kept, or else the one that is composed
abbrev pub known_flats : (List ℕ → Option PlainNet) → Nets → Nets
known_flats hints composed name = option_or (flat_of_hint (hints name)) (composed name)

-- what is composed of a type: its flat network in each view of which the table has the adapters
pub record IsComposed (table : View) (nets : Nets) (name : List ℕ) (flat : PlainFlat) : Type 0 where
  pub network : PlainNetwork
  pub there : table name ≡ Some network
  pub whole : IsFlatInWhole table network nets flat

-- under the name there is a flat network that is composed so
pub record IsAdded (table : View) (nets new : Nets) (name : List ℕ) : Type 0 where
  pub flat : PlainFlat
  pub found : new name ≡ Some flat
  pub composed : IsComposed table nets name flat

-- the subapplications among these names that are not too large are finished, except the unit
abbrev pub AllFinished : Sources → Nets → List ℕ → List (List ℕ) → Type 0
AllFinished sources nets unit names =
    (name : List ℕ)
    → Contains names name → name ≢ unit → kind_at sources name ≡ Some kinds.Subapplication → IsSmallType (declared sources) name
    → IsFinished (declared sources) nets name

abbrev pub is_subapplication_tree : DeclTree → Bool
is_subapplication_tree (block_type d) = false
is_subapplication_tree (adapter_type d) = false
is_subapplication_tree (subapplication_type d) = true
is_subapplication_tree (system_configuration s) = false
is_subapplication_tree (structure_type s) = false

abbrev pub is_subapplication_in : Option DeclTree → Bool
is_subapplication_in None = false
is_subapplication_in (Some tree) = is_subapplication_tree tree

-- whether the flat network of the name must be composed for the unit: that of another subapplication whose kept net does not show that it is whole
abbrev pub is_missing : Sources → (List ℕ → Option PlainNet) → List ℕ → List ℕ → Bool
is_missing sources hints unit name =
    not (is_at (name_cmp unit) name) && (not (is_whole_hint (hints name)) && is_subapplication_in (tree_at sources name))

-- the network can be composed by the table: it has the adapters, the network is clean throughout, and its inner types are finished
pub record IsComposable (table whole : View) (nets : Nets) (network : PlainNetwork) : Type 0 where
  pub same : SameAdapters table whole network
  pub clean : IsCleanThroughout whole network
  pub finished : AreFinished whole network nets

-- the networks of all applications can be composed so
abbrev pub AreComposable : View → View → Nets → List Application → Type 0
AreComposable table whole nets applications = (a : Application) → Contains applications a → IsComposable table whole nets a.network

-- what is composed of an application, if it can be composed
abbrev pub IsComposedApplication : View → Nets → Application → FlatApplication → Type 0
IsComposedApplication table nets application flat =
    (whole : View) → IsComposable table whole nets application.network → IsFlatApplication whole application flat

abbrev pub AreComposedApplications : View → Nets → List Application → List FlatApplication → Type 0
AreComposedApplications table nets applications flats =
    (whole : View) → AreComposable table whole nets applications → AreFlatApplications whole applications flats

-- the flat network of applications together
pub record IsFlatTogether (view : View) (applications : List Application) (flat : PlainFlat) : Type 0 where
  pub flats : List FlatApplication
  pub each : AreFlatApplications view applications flats
  pub joined : IsSystemFlat flats flat

abbrev pub AreComposedTogether : View → Nets → List Application → PlainFlat → Type 0
AreComposedTogether table nets applications flat =
    (whole : View) → AreComposable table whole nets applications → IsFlatTogether whole applications flat

abbrev pub is_system_tree : DeclTree → Bool
is_system_tree (block_type d) = false
is_system_tree (adapter_type d) = false
is_system_tree (subapplication_type d) = false
is_system_tree (system_configuration s) = true
is_system_tree (structure_type s) = false

abbrev pub is_system_in : Option DeclTree → Bool
is_system_in None = false
is_system_in (Some tree) = is_system_tree tree
