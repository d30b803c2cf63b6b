-- What the flat network of a network depends on.
use Rattle.std.specs.Prelude.{ℕ, ◌≡◌, ◌↔◌, List, Some, Contains}
use Rattle.fb_types.specs.{Network.declared.network.Port.{Port}, Network.declared.network.Instance.{Instance}, Network.Plain.{PlainNetwork}}
use Rattle.fb_types.specs.{Network.PlainFlat.{PlainFlat}, Network.Network.{View}, Network.Instances.{Held, AreInstances}, Network.Count.{IsCount}}
use Rattle.fb_types.specs.Network.FlatNet.{IsFlat}

-- each instance has its type, and each plug or socket its adapter, among those names
pub record Within (known : List ℕ → Type 0) (network : PlainNetwork) : Type 0 where
  pub types : (i : Instance) → Contains network.instances i → known i.type_name
  pub adapters : (port : Port) (name : List ℕ) → Contains network.ports port → port.adapter ≡ Some name → known name

-- the networks of the names are within the names
abbrev pub IsClosed : View → (List ℕ → Type 0) → Type 0
IsClosed view known = (name : List ℕ) (network : PlainNetwork) → known name → view name ≡ Some network → Within known network

-- the same network, or none, under each of the names
abbrev pub SameNetworks : (List ℕ → Type 0) → View → View → Type 0
SameNetworks known a b = (name : List ℕ) → known name → a name ≡ b name

-- both have the same flat networks, instances and counts of the network
pub record SameFlats (a b : View) (network : PlainNetwork) : Type 0 where
  pub flats : (flat : PlainFlat) → IsFlat a network flat ↔ IsFlat b network flat
  pub instances : (held : List Held) → AreInstances a network.instances held ↔ AreInstances b network.instances held
  pub counts : (count : ℕ) → IsCount a network.instances count ↔ IsCount b network.instances count

-- the flat network of a network within some names depends only on the networks of these names
abbrev pub FlatNetworksAreLocal : Type 0
FlatNetworksAreLocal =
    (a b : View) (names : List (List ℕ)) (network : PlainNetwork)
    → IsClosed a (Contains names) → SameNetworks (Contains names) a b → Within (Contains names) network
    → SameFlats a b network
