use Rattle.std.proofs.Common.{◌≡◌, take, None, cond}
use Rattle.fb_jobs.specs.declared.keys.key.Key.{Key}
use Rattle.fb_entries.specs.Keyed.{entry_in}
use Rattle.fb_entries.specs.Marking.{is_of}
use Rattle.fb_entries.proofs.renewal.take_out.Given as goal

abbrev pub invariant-loop-key : goal.invariant-loop-key
invariant-loop-key l = (other : Key) → entry_in l.entries other ≡ cond (is_of other (take l.key-index l.keys)) None (entry_in l.initial.entries other)
