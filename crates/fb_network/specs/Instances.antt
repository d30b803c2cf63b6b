-- The instances of a network, of all depths, and its blocks (IEC 61499-1, 5.4: subapplication types).
use Rattle.std.specs.Prelude.{ℕ, ◌≡◌, List, [], ◌∷◌, ◌++◌, Some, map}
use Rattle.fb_network.specs.{declared.network.InstanceKind.{InstanceKind}, declared.network.InstanceKind.TheVariants.{Block, Subapplication}}
use Rattle.fb_network.specs.{declared.network.Instance.{Instance}, Plain.{PlainNetwork}, declared.flat.FlatBlock.{FlatBlock}, Network.{View, Place}}
use Rattle.fb_network.specs.Printed.{printed}

-- an instance at its path
pub record Held : Type 0 where
  pub path : Place
  pub kind : InstanceKind
  pub typed : List ℕ

abbrev pub held_as : Instance → Held
held_as i = record { path = i.name ∷ []; kind = i.kind; typed = i.type_name }

abbrev pub held_within : List ℕ → Held → Held
held_within name h = record { path = name ∷ h.path; kind = h.kind; typed = h.typed }

-- a list of instances in order, each subapplication instance followed by its own instances
pub data AreInstances (view : View) : List Instance → List Held → Type 0 where
  NoInstance : AreInstances view [] []
  ThenBlock :
      (i : Instance) (rest : List Instance) (others : List Held)
      → i.kind ≡ Block → AreInstances view rest others
      → AreInstances view (i ∷ rest) (held_as i ∷ others)
  ThenSubapplication :
      (i : Instance) (rest : List Instance) (inner : PlainNetwork) (own others : List Held)
      → i.kind ≡ Subapplication → view i.type_name ≡ Some inner
      → AreInstances view inner.instances own → AreInstances view rest others
      → AreInstances view (i ∷ rest) (held_as i ∷ (map (held_within i.name) own ++ others))

abbrev pub leaf_first : InstanceKind → Held → List FlatBlock → List FlatBlock
leaf_first Block h leaves = record { path = printed h.path; type_name = h.typed } ∷ leaves
leaf_first Subapplication h leaves = leaves

-- the blocks among the instances, in order
abbrev pub leaves_of : List Held → List FlatBlock
leaves_of [] = []
leaves_of (h ∷ hs) = leaf_first h.kind h (leaves_of hs)

-- the list has the blocks of the network, in order
pub record AreBlocks (view : View) (network : PlainNetwork) (blocks : List FlatBlock) : Type 0 where
  pub held : List Held
  pub instances : AreInstances view network.instances held
  pub blocks_are : blocks ≡ leaves_of held
