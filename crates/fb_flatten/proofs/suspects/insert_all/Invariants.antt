-- The parts passed so far are inserted.
use Rattle.std.proofs.Common.{◌≡◌, ℕ, List, ◌||◌, take}
use Rattle.fb_types.specs.Library.Seen.{has_name}
use Rattle.fb_flatten.proofs.suspects.insert_all.Given as goal

abbrev pub invariant-loop-name : goal.invariant-loop-name
invariant-loop-name l = (v : List ℕ) → has_name l.parts.keys v ≡ (has_name l.fn.parts.keys v || has_name (take l.name-index l.names) v)
