-- How much a workbench may hold.
use Rattle.std.specs.Prelude.{ℕ, ◌≤◌}

-- the most units and the most recorded calls
pub record Bounds : Type 0 where
  pub units : ℕ
  pub history : ℕ

abbrev pub AreLimits : ℕ → ℕ → Type 0
AreLimits units history = (1 ≤ units) × (units ≤ 16384) × (1 ≤ history) × (history ≤ 10000000)
