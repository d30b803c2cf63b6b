use Rattle.std.proofs.Common.{◌+◌, length}
use Rattle.fb_iface.specs.Library.Seen.{unseen}
use Rattle.fb_types.specs.Graph.{edges_within}
use Rattle.fb_types.proofs.ReachLemmas.{IsWalk}
use Rattle.fb_types.proofs.cycles.walk.Given as goal

abbrev pub invariant-loop-name : goal.invariant-loop-name
invariant-loop-name l = IsWalk (edges_within l.edges l.within) l.from l.seen.keys l.pending.items

abbrev pub decreases-loop-name : goal.decreases-loop-name
decreases-loop-name l = unseen l.seen.keys l.within.keys + length l.pending.items
