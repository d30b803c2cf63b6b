use Rattle.std.proofs.Common.{◌+◌, [], ◌∷◌, length}
use Rattle.fb_library.specs.{Near.{in_all_trees}, Seen.{unseen}, View.{mentions_at, mentions_in}}
use Rattle.fb_library.proofs.WalkLemmas.{IsWalk}
use Rattle.fb_library.proofs.walk.far.Given as goal

abbrev pub invariant-loop-name : goal.invariant-loop-name
invariant-loop-name g l = IsWalk (mentions_at (g.V.View.sources l.view)) (l.fn.unit ∷ []) l.seen.keys l.pending.items

abbrev pub decreases-loop-name : goal.decreases-loop-name
decreases-loop-name g l = unseen l.seen.keys (in_all_trees mentions_in (g.V.View.sources l.view)) + length l.pending.items
