-- Places, chains and links of a network (IEC 61499-1, 5.4: subapplication types).
use Rattle.std.specs.{Prelude.{ℕ, ◌≡◌, List, [], ◌∷◌, Option, Some, Contains, ◌⊎◌, find}, BTreeMap.{is_at}}
use Rattle.fb_tree.specs.{Text.Order.{name_cmp}, declared.network.Sort.{Sort}}
use Rattle.fb_network.specs.{declared.network.InstanceKind.TheVariants.{Block, Subapplication}, declared.network.Instance.{Instance}}
use Rattle.fb_network.specs.{declared.network.End.{End}, declared.network.End.TheVariants.{Own, Of}, declared.network.Connection.{Connection}}
use Rattle.fb_network.specs.Plain.{PlainNetwork}

-- networks by the names of their types
abbrev pub View : Type 0
View = List ℕ → Option PlainNetwork

-- a place: the names from the network down to an instance, and then a port's
abbrev pub Place : Type 0
Place = List (List ℕ)

-- the first instance of that name
abbrev pub instance_named : List Instance → List ℕ → Option Instance
instance_named instances name = find (λ i. is_at (name_cmp i.name) name) instances

-- the network holds a block of that type under that name
pub record IsBlock (network : PlainNetwork) (name type : List ℕ) : Type 0 where
  pub instance : Instance
  pub first : instance_named network.instances name ≡ Some instance
  pub kind : instance.kind ≡ Block
  pub typed : instance.type_name ≡ type

-- the network holds a subapplication instance under that name, and its type has the inner network
pub record IsInner (view : View) (network : PlainNetwork) (name : List ℕ) (inner : PlainNetwork) : Type 0 where
  pub instance : Instance
  pub first : instance_named network.instances name ≡ Some instance
  pub kind : instance.kind ≡ Subapplication
  pub declared : view instance.type_name ≡ Some inner

-- an end of a connection of the network itself, read as a place
abbrev pub place_of : End → Place
place_of (Own port) = port ∷ []
place_of (Of instance port) = instance ∷ port ∷ []

-- the network holds a connection of that sort from one end to the other
pub record IsConnected (network : PlainNetwork) (sort : Sort) (a b : End) : Type 0 where
  pub connection : Connection
  pub among : Contains network.connections connection
  pub sorted : connection.sort ≡ sort
  pub source : connection.source ≡ a
  pub destination : connection.destination ≡ b

-- the network, or a subapplication instance in it, holds the connection from one place to the other
pub data Step (view : View) (sort : Sort) : PlainNetwork → Place → Place → Type 0 where
  Holds :
      {network : PlainNetwork} {a b : Place} (s d : End)
      → IsConnected network sort s d → a ≡ place_of s → b ≡ place_of d
      → Step view sort network a b
  Within :
      {network : PlainNetwork} {a b : Place} (inner : PlainNetwork) (name : List ℕ) (a' b' : Place)
      → IsInner view network name inner → a ≡ name ∷ a' → b ≡ name ∷ b'
      → Step view sort inner a' b' → Step view sort network a b

-- an own port of the network, or of a subapplication instance in it
pub data IsBorderPlace (view : View) : PlainNetwork → Place → Type 0 where
  OwnPort :
      {network : PlainNetwork} {a : Place} (port : List ℕ)
      → a ≡ port ∷ [] → IsBorderPlace view network a
  PortWithin :
      {network : PlainNetwork} {a : Place} (inner : PlainNetwork) (name : List ℕ) (a' : Place)
      → IsInner view network name inner → a ≡ name ∷ a'
      → IsBorderPlace view inner a' → IsBorderPlace view network a

-- a port of a block in the network, or in a subapplication instance in it
pub data IsLeafPlace (view : View) : PlainNetwork → Place → Type 0 where
  BlockPort :
      {network : PlainNetwork} {a : Place} (name type port : List ℕ)
      → IsBlock network name type → a ≡ name ∷ port ∷ [] → IsLeafPlace view network a
  LeafWithin :
      {network : PlainNetwork} {a : Place} (inner : PlainNetwork) (name : List ℕ) (a' : Place)
      → IsInner view network name inner → a ≡ name ∷ a'
      → IsLeafPlace view inner a' → IsLeafPlace view network a

-- one or more connections of one sort lead from one place to the other, through border places only
pub data Chain (view : View) (sort : Sort) (network : PlainNetwork) : Place → Place → Type 0 where
  One : {a b : Place} → Step view sort network a b → Chain view sort network a b
  More :
      {a c : Place} (b : Place) → Step view sort network a b → IsBorderPlace view network b
      → Chain view sort network b c → Chain view sort network a c

-- a chain joins a port of a block to a port of a block
pub record IsLink (view : View) (network : PlainNetwork) (sort : Sort) (a b : Place) : Type 0 where
  pub from_leaf : IsLeafPlace view network a
  pub to_leaf : IsLeafPlace view network b
  pub chain : Chain view sort network a b

-- a chain joins an own port and a port of a block
pub record IsBorder (view : View) (network : PlainNetwork) (sort : Sort) (port : List ℕ) (place : Place) : Type 0 where
  pub leaf : IsLeafPlace view network place
  pub chain : Chain view sort network (port ∷ []) place ⊎ Chain view sort network place (port ∷ [])
