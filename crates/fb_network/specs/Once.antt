-- Entries in the order of their texts, each once.
use Rattle.std.specs.{Prelude.{List, map}, List.{Contains}, List.Sorted.{IsStrictlySortedBy}, declared.cmp.Ordering.{Ordering}}

-- of the old entries some are left; they have all texts that the old ones have, each once, in order
pub record IsOnce {E X : Type 0} (says : E → X) (cmp : X → X → Ordering) (old new : List E) : Type 0 where
  pub sorted : IsStrictlySortedBy cmp (map says new)
  pub kept : (x : X) → Contains (map says old) x → Contains (map says new) x
  pub left : (e : E) → Contains new e → Contains old e
