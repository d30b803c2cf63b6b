-- Nets as plain values.
use Rattle.std.specs.Prelude.{ℕ, List}
use Rattle.fb_network.specs.PlainFlat.{PlainFlat}
use Rattle.fb_types.specs.{declared.nets.Net.{Net}, declared.nets.Net.TheVariants.{Blocked, Recursive, TooLarge, Flat}}

-- a net as a plain value
pub data PlainNet : Type 0 where
  blocked : List (List ℕ) → PlainNet
  recursive : List (List ℕ) → PlainNet
  too_large : PlainNet
  flat_net : PlainFlat → PlainNet

-- a net without its place in memory
abbrev pub plain_net : Net → PlainNet
plain_net (Blocked names) = blocked names.items
plain_net (Recursive names) = recursive names.items
plain_net TooLarge = too_large
plain_net (Flat flat) = flat_net flat
