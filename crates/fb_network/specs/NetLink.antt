-- The links of a flat network: a chain of adapters gives links of the adapter's events and data (IEC 61499-1, 5.5: adapters).
use Rattle.std.specs.Prelude.{◌≡◌, [], ◌∷◌, ◌++◌, Some, Contains}
use Rattle.fb_tree.specs.{declared.network.Sort.{Sort}, declared.network.Sort.TheVariants.{Adapter}, declared.interface.Side.TheVariants.{Input, Output}}
use Rattle.fb_network.specs.{declared.network.Port.{Port}, Plain.{PlainNetwork}, Network.{View, Place, IsLink}, Clean.{adapter_at}}

-- an event or data chain; or, for a chain from a plug to a socket, each output of the adapter from the plug
-- to the socket, and each input of it from the socket to the plug
pub data IsNetLink (view : View) (network : PlainNetwork) (sort : Sort) (a b : Place) : Type 0 where
  Direct : (sort ≡ Adapter → ⊥) → IsLink view network sort a b → IsNetLink view network sort a b
  FromPlug :
      (plug socket : Place) (adapter : PlainNetwork) (port : Port)
      → IsLink view network Adapter plug socket → adapter_at view network plug ≡ Some adapter
      → Contains adapter.ports port → port.sort ≡ sort → port.side ≡ Output
      → a ≡ plug ++ port.name ∷ [] → b ≡ socket ++ port.name ∷ []
      → IsNetLink view network sort a b
  ToPlug :
      (plug socket : Place) (adapter : PlainNetwork) (port : Port)
      → IsLink view network Adapter plug socket → adapter_at view network plug ≡ Some adapter
      → Contains adapter.ports port → port.sort ≡ sort → port.side ≡ Input
      → a ≡ socket ++ port.name ∷ [] → b ≡ plug ++ port.name ∷ []
      → IsNetLink view network sort a b
