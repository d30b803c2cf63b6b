use Rattle.std.proofs.Common.{◌≡◌, take, true, false}
use Rattle.std.specs.BTreeSet as set
use Rattle.fb_jobs.specs.{declared.keys.key.Key.{Key}, KeyOrder.{key_cmp}}
use Rattle.fb_entries.specs.Marking.{is_of}
use Rattle.fb_entries.proofs.renewal.join_all.Given as goal

abbrev pub invariant-loop-key : goal.invariant-loop-key
invariant-loop-key l =
    ((other : Key) → is_of other (take l.key-index l.keys) ≡ false → set.contains key_cmp l.members other ≡ set.contains key_cmp l.initial.members other)
    × ((other : Key) → is_of other (take l.key-index l.keys) ≡ true → set.contains key_cmp l.members other ≡ true)
