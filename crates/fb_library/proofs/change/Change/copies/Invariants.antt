use Rattle.std.proofs.Common.{◌≡◌, take}
use Rattle.fb_library.specs.Changes.{edits_of}
use Rattle.fb_library.proofs.change.Change.copies.Given as goal

abbrev pub invariant-loop-change : goal.invariant-loop-change
invariant-loop-change l = edits_of l.copies.items ≡ edits_of (take l.change-index l.changes)
