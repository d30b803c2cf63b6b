-- What a search keeps, and how it ends.
use Rattle.std.proofs.Common.{◌+◌, length}
use Rattle.fb_types.specs.Library.Seen.{unseen}
use Rattle.fb_flatten.proofs.SuspectLemmas.{IsSearch, all_mentions}
use Rattle.fb_flatten.proofs.suspects.suspects.Given as goal

abbrev pub invariant-loop-name : goal.invariant-loop-name
invariant-loop-name g l = IsSearch (g.H.Hints.hints l.hints) (g.V.View.sources l.view) l.fn.unit l.seen.keys l.pending.items

abbrev pub decreases-loop-name : goal.decreases-loop-name
decreases-loop-name g l = unseen l.seen.keys (all_mentions (g.V.View.sources l.view)) + length l.pending.items
