use Rattle.std.proofs.Common.{◌≡◌, take}
use Rattle.fb_library.specs.Entries.{entries_of}
use Rattle.fb_library.proofs.placed.copied.Given as goal

abbrev pub invariant-loop-placed : goal.invariant-loop-placed
invariant-loop-placed g l = entries_of l.copy.items ≡ entries_of (take l.placed-index l.places)
