use Rattle.std.proofs.Common.{◌≡◌, take, length}
use Rattle.fb_library.specs.Entries.{entries_on}
use Rattle.fb_library.proofs.shelves.counted.Given as goal

abbrev pub invariant-loop-shelf : goal.invariant-loop-shelf
invariant-loop-shelf g l = l.len ≡ length (entries_on g.E.Entries.entries (take l.shelf-index l.shelves))
