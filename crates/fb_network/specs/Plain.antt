-- Networks as plain values (IEC 61499-1, 5.4: subapplication types; 5.5: adapters).
use Rattle.std.specs.Prelude.{List}
use Rattle.fb_network.specs.{declared.network.Port.{Port}, declared.network.Instance.{Instance}, declared.network.Connection.{Connection}}

-- what a type declares of ports and of its network, each list in the order of the text
pub record PlainNetwork : Type 0 where
  pub ports : List Port
  pub instances : List Instance
  pub connections : List Connection
