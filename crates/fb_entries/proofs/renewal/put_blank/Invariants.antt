use Rattle.std.proofs.Common.{◌≡◌, take, true, false, is_none}
use Rattle.fb_jobs.specs.declared.keys.key.Key.{Key}
use Rattle.fb_entries.specs.Keyed.{entry_in}
use Rattle.fb_entries.specs.Marking.{is_of}
use Rattle.fb_entries.proofs.renewal.put_blank.Given as goal

abbrev pub invariant-loop-key : goal.invariant-loop-key
invariant-loop-key l =
    ((other : Key) → is_of other (take l.key-index l.keys) ≡ false → entry_in l.entries other ≡ entry_in l.initial.entries other)
    × ((other : Key) → is_of other (take l.key-index l.keys) ≡ true → is_none (entry_in l.entries other) ≡ false)
