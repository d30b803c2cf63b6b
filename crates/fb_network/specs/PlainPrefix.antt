-- Prefixes as plain values.
use Rattle.std.specs.Prelude.{ℕ, List}

-- the start of some paths, and the texts that may follow it
pub record PlainPrefix : Type 0 where
  pub start : List ℕ
  pub ends : List (List ℕ)
