-- The net of a unit: its flat network, or why it has none.
use Rattle.std.specs.{Prelude.{ℕ, ◌≢◌, List, [], None}, FinMap.{get}}
use Rattle.fb_types.specs.{Library.View.{Sources}, Reaches.{IsRecursive}, Network.PlainFlat.{PlainFlat}, Units.{IsTooLarge, IsWithinLimit, IsUnitFlat}}
pub use Rattle.fb_types.specs.Net.{PlainNet, blocked, recursive, too_large, flat_net, plain_net}
use Rattle.fb_flatten.specs.Blocking.{IsBlocking, AreThose}

-- nothing blocks the unit: all that it rests on is without faults, and all parts of that are present
abbrev pub IsWhole : Sources → List ℕ → Type 0
IsWhole sources unit = AreThose sources unit (IsBlocking sources unit) []

-- the unit is present, nothing blocks it, and none of what it rests on reaches itself
pub record IsSound (sources : Sources) (unit : List ℕ) : Type 0 where
  pub present : get sources unit ≢ None
  pub whole : IsWhole sources unit
  pub finite : AreThose sources unit (IsRecursive sources) []

-- The first of these that applies: the names that the unit rests on that have faults, or are absent and a part of something that it rests
-- on, if any; those that reach themselves, if any; too many instances; the flat network.
abbrev pub IsNet : Sources → List ℕ → PlainNet → Type 0
IsNet sources unit (blocked names) = AreThose sources unit (IsBlocking sources unit) names × (names ≢ [])
IsNet sources unit (recursive names) = IsWhole sources unit × AreThose sources unit (IsRecursive sources) names × (names ≢ [])
IsNet sources unit too_large = IsSound sources unit × IsTooLarge sources unit
IsNet sources unit (flat_net flat) = IsSound sources unit × IsWithinLimit sources unit × IsUnitFlat sources unit flat

-- the unit has this flat network
abbrev pub HasFlat : Sources → List ℕ → PlainFlat → Type 0
HasFlat sources unit flat = IsNet sources unit (flat_net flat)
