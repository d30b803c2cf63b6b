use Rattle.std.proofs.Common.{◌+◌, [], length, take}
use Rattle.std.specs.List.{flat_map}
use Rattle.fb_library.specs.{Near.{carried_on, in_all_trees}, Seen.{Opens, unseen}, View.{values_at, values_in}}
use Rattle.fb_library.proofs.WalkLemmas.{IsWalk}
use Rattle.fb_library.proofs.walk.carried.Given as goal

abbrev pub invariant-loop-unit : goal.invariant-loop-unit
invariant-loop-unit g l = Opens (flat_map (values_at (g.V.View.sources l.view)) (take l.unit-index l.units)) [] [] l.seen.keys l.pending.items

abbrev pub invariant-loop-name : goal.invariant-loop-name
invariant-loop-name g l = IsWalk (carried_on (g.V.View.sources l.view)) (flat_map (values_at (g.V.View.sources l.view)) l.fn.units) l.seen.keys l.pending.items

abbrev pub decreases-loop-name : goal.decreases-loop-name
decreases-loop-name g l = unseen l.seen.keys (in_all_trees values_in (g.V.View.sources l.view)) + length l.pending.items
