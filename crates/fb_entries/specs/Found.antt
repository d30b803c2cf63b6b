-- What an entry keeps, and the units of changes.
use Rattle.std.specs.{Prelude.{ℕ, List, map, Option, Some, None}, Option.{option_map}}
use Rattle.fb_index.specs.{Library.Texts.{unit_of}, Library.declared.change.Change.{Change}, Library.Changes.{edits_of}}
use Rattle.fb_jobs.specs.{Keys.{Finding}, Values.{finding_of}}
use Rattle.fb_entries.specs.{declared.entry.Entry.{Entry}, Marking.{value_in}}

-- the value that an entry keeps
abbrev pub kept_in : Option Entry → Option Finding
kept_in None = None
kept_in (Some it) = value_in it

-- the value that was found for it
abbrev pub found_in : Option Entry → Option Finding
found_in None = None
found_in (Some it) = option_map (λ value. finding_of value.value) it.found

-- the units of the changes
abbrev pub units_of : List Change → List (List ℕ)
units_of changes = map unit_of (edits_of changes)
