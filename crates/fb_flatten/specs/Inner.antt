-- Nets of units that others rest on.
use Rattle.std.specs.Prelude.{ℕ, ◌≡◌, ◌≤◌, List, Option, Some}
use Rattle.fb_types.specs.{Library.View.{Sources}, Library.Rests.{Rests}, Network.declared.flat.count.TheConstants.{INSTANCE_LIMIT}, Network.PlainFlat.{PlainFlat}}
use Rattle.fb_types.specs.Network.Ready.{Nets}
use Rattle.fb_flatten.specs.{Net.{flat_net, plain_net}, Nets.{net_at}, declared.inner.Inner.{Inner}}

-- the net of a unit that the unit rests on
pub record IsInnerNet (sources : Sources) (unit : List ℕ) (it : Inner) : Type 0 where
  pub below : Rests sources unit it.unit
  pub net_is : net_at sources it.unit ≡ Some (plain_net it.net)

-- the type is counted within the limit
pub record IsCountedWithin (counts : List ℕ → Option ℕ) (name : List ℕ) : Type 0 where
  pub count : ℕ
  pub counted : counts name ≡ Some count
  pub within : count ≤ INSTANCE_LIMIT

-- a flat network of these, of a type that is counted within the limit
pub record IsCountedFlat (flats : Nets) (counts : List ℕ → Option ℕ) (it : Inner) : Type 0 where
  pub flat : PlainFlat
  pub found : flats it.unit ≡ Some flat
  pub small : IsCountedWithin counts it.unit
  pub net_is : plain_net it.net ≡ flat_net flat
