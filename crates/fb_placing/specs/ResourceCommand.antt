-- A command and the resource that it is for.
use Rattle.std.specs.Prelude.{ℕ, List}

pub record ResourceCommand : Type 0 where
  pub resource : List ℕ
  pub command : List ℕ
