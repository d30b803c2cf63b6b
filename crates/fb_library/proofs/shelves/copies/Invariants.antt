use Rattle.std.proofs.Common.{◌≡◌, take}
use Rattle.fb_library.specs.Entries.{shelves_of}
use Rattle.fb_library.proofs.shelves.copies.Given as goal

abbrev pub invariant-loop-shelf : goal.invariant-loop-shelf
invariant-loop-shelf g l = shelves_of g.E.Entries.entries l.copies.items ≡ shelves_of g.E.Entries.entries (take l.shelf-index l.shelves)
