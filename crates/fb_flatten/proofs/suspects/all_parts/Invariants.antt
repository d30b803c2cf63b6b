-- The parts of the names passed so far are there.
use Rattle.std.proofs.Common.{◌≡◌, ℕ, List, take}
use Rattle.fb_types.specs.Library.Seen.{has_name}
use Rattle.fb_flatten.specs.Suspects.{is_part_beyond}
use Rattle.fb_flatten.proofs.suspects.all_parts.Given as goal

abbrev pub invariant-loop-name : goal.invariant-loop-name
invariant-loop-name g l = (v : List ℕ) → has_name l.parts.keys v ≡ is_part_beyond (g.H.Hints.hints l.hints) (g.V.View.sources l.view) (take l.name-index l.names) v
