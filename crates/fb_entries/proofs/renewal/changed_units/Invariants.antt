use Rattle.std.proofs.Common.{◌≡◌, take, map}
use Rattle.fb_index.specs.{Library.Texts.{unit_of}, Library.Changes.{edits_of}}
use Rattle.fb_entries.proofs.renewal.changed_units.Given as goal

abbrev pub invariant-loop-change : goal.invariant-loop-change
invariant-loop-change l = l.names.items ≡ map unit_of (edits_of (take l.change-index l.changes))
