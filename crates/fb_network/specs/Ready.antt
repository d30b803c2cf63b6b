-- The flat networks that a network is composed of.
use Rattle.std.specs.Prelude.{ℕ, ◌≡◌, List, Option, Some, Contains}
use Rattle.fb_network.specs.{declared.network.InstanceKind.TheVariants.{Subapplication}, declared.network.Instance.{Instance}, Plain.{PlainNetwork}}
use Rattle.fb_network.specs.{PlainFlat.{PlainFlat}, Network.{View}, FlatNet.{IsFlat}}

-- flat networks by the names of their types
abbrev pub Nets : Type 0
Nets = List ℕ → Option PlainFlat

-- the name has the flat network of that type
pub record IsFinished (view : View) (nets : Nets) (name : List ℕ) : Type 0 where
  pub inner : PlainNetwork
  pub declared : view name ≡ Some inner
  pub net : PlainFlat
  pub found : nets name ≡ Some net
  pub flat : IsFlat view inner net

-- the types of the network's subapplication instances are finished
abbrev pub AreFinished : View → PlainNetwork → Nets → Type 0
AreFinished view network nets =
    (i : Instance) → Contains network.instances i → i.kind ≡ Subapplication → IsFinished view nets i.type_name
