use Rattle.std.proofs.Common.{◌≡◌, take}
use Rattle.fb_jobs.specs.Library.Changes.{edits_of}
use Rattle.fb_history.specs.Records.{text_edits}
use Rattle.fb_history.proofs.record.TextChange.all_of.Given as goal

abbrev pub invariant-loop-change : goal.invariant-loop-change
invariant-loop-change l = text_edits l.made.items ≡ edits_of (take l.change-index l.changes)
