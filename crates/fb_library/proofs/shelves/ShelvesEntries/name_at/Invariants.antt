use Rattle.std.proofs.Common.{◌≡◌, drop, slice_get}
use Rattle.fb_library.specs.{Entries.{entries_on}, Shelves.{names_of}}
use Rattle.fb_library.proofs.shelves.ShelvesEntries.name_at.Given as goal

-- what is left to go is on the shelves that are left
abbrev pub invariant-loop-shelf : goal.invariant-loop-shelf
invariant-loop-shelf g l = slice_get (names_of (entries_on g.E.Entries.entries (drop l.shelf-index l.shelf-items))) l.index ≡ slice_get (names_of (entries_on g.E.Entries.entries l.shelf-items)) l.fn.index
