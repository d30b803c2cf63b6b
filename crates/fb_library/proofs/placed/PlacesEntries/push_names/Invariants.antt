use Rattle.std.proofs.Common.{◌≡◌, ◌++◌, take}
use Rattle.fb_library.specs.Entries.{names_in}
use Rattle.fb_library.proofs.placed.PlacesEntries.push_names.Given as goal

abbrev pub invariant-loop-placed : goal.invariant-loop-placed
invariant-loop-placed g l = l.names.items ≡ l.initial.names.items ++ names_in (take l.placed-index l.placed-items)
