use Rattle.std.proofs.Common.{◌≡◌, ◌++◌, take}
use Rattle.fb_library.specs.{Entries.{entries_on}, Shelves.{names_of}}
use Rattle.fb_library.proofs.shelves.ShelvesEntries.push_names.Given as goal

abbrev pub invariant-loop-shelf : goal.invariant-loop-shelf
invariant-loop-shelf g l = l.names.items ≡ l.initial.names.items ++ names_of (entries_on g.E.Entries.entries (take l.shelf-index l.shelf-items))
