-- Flat networks as plain values.
use Rattle.std.specs.Prelude.{List}
use Rattle.fb_network.specs.{declared.flat.FlatBlock.{FlatBlock}, declared.flat.Link.{Link}, declared.flat.Border.{Border}}

pub record PlainFlat : Type 0 where
  pub blocks : List FlatBlock
  pub links : List Link
  pub borders : List Border
