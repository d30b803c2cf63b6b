use Rattle.std.proofs.Common.{◌≡◌, take}
use Rattle.fb_jobs.specs.declared.keys.key.Key.{Key}
use Rattle.fb_entries.specs.Keyed.{entry_in}
use Rattle.fb_entries.specs.Marking.{is_of, waiting_if}
use Rattle.fb_entries.proofs.renewal.renew_all.Given as goal

abbrev pub invariant-loop-key : goal.invariant-loop-key
invariant-loop-key l = (other : Key) → entry_in l.entries other ≡ waiting_if (is_of other (take l.key-index l.keys)) (entry_in l.initial.entries other)
