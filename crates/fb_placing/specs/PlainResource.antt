-- A resource with its commands, as a plain value.
use Rattle.std.specs.Prelude.{ℕ, List}

pub record PlainResource : Type 0 where
  -- DEVICE.RESOURCE
  pub name : List ℕ
  pub commands : List (List ℕ)
