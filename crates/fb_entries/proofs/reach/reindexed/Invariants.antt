use Rattle.std.proofs.Common.{◌≡◌, take, drop, None}
use Rattle.fb_entries.proofs.{Again.{repeated_after}, Indexing.{IsReindexed}}
use Rattle.fb_entries.proofs.reach.reindexed.Given as goal

abbrev pub invariant-loop-unit : goal.invariant-loop-unit
invariant-loop-unit l =
    (repeated_after (take l.unit-index l.units) (drop l.unit-index l.units) ≡ None)
    × IsReindexed l.before l.after (take l.unit-index l.units) l.fn.index l.index
