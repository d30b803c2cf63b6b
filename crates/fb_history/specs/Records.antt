-- Records of the program as contracts see them.
use Rattle.std.specs.{Prelude.{◌+◌, List, map, take, Some, None, string_bytes}, declared.sync.Arc.{Arc}, declared.alloc.Global.{Global}}
use Rattle.fb_jobs.specs.{Library.Texts.{Edit, Puts, Removes}, Library.declared.change.Change.{Change}, Library.Changes.{edits_of}, Reads.{PlainJob}}
use Rattle.fb_jobs.specs.Values.{finding_of}
use Rattle.fb_history.specs.Machine as machine
use Rattle.fb_history.specs.Machine.{most_changes, ToCommit, ToTake, ToDeliver, ToGiveBack, ToAsk, Shown, Finds, Waits, Unknown, OfCommit, OfTake, OfDeliver, OfGiveBack, OfAsk}
use Rattle.fb_history.specs.{BenchView.{Record}, declared.answers.Asked.{Asked}, declared.answers.Asked.TheVariants.{Value, Pending, NoSuchKey}}
use Rattle.fb_history.specs.{declared.answers.Delivered.TheVariants.{Accepted}, declared.record.Wanted.{Wanted}, declared.record.TextChange.{TextChange}}
use Rattle.fb_history.specs.{declared.record.TextChange.TheVariants.{Put, Remove}, declared.record.Call.{Call}}
use Rattle.fb_history.specs.{declared.record.Call.TheVariants.{Commit, Take, Deliver, GiveBack, Ask}, declared.record.Reply.{Reply}}
use Rattle.fb_history.specs.declared.record.Reply.TheVariants as kept

abbrev pub wanted_job : Wanted → PlainJob
wanted_job it = record { key = it.key.value; reads = it.reads.value }

abbrev pub text_edit : TextChange → Edit
text_edit (Put unit base text) = Puts unit base (string_bytes text.value)
text_edit (Remove unit base) = Removes unit base

abbrev pub text_edits : List TextChange → List Edit
text_edits changes = map text_edit changes

abbrev pub call_of : Call → machine.Call
call_of (Commit changes) = ToCommit (text_edits changes.value.items)
call_of Take = ToTake
call_of (Deliver it) = ToDeliver (wanted_job it)
call_of (GiveBack key) = ToGiveBack key.value
call_of (Ask key) = ToAsk key.value

abbrev pub shown_in : Asked → Shown
shown_in (Value value) = Finds (finding_of value.value)
shown_in Pending = Waits
shown_in NoSuchKey = Unknown

abbrev pub reply_of : Reply → machine.Reply
reply_of (kept.Committed answer) = OfCommit answer.value
reply_of (kept.Job it) = OfTake (Some (wanted_job it))
reply_of kept.Nothing = OfTake None
reply_of kept.Accepted = OfDeliver Accepted
reply_of (kept.NotAccepted refused) = OfDeliver refused.value
reply_of (kept.GivenBack answer) = OfGiveBack answer
reply_of (kept.Value value) = OfAsk (Finds (finding_of value.value))
reply_of kept.Pending = OfAsk Waits
reply_of kept.NoSuchKey = OfAsk Unknown

abbrev pub records_in : List (Arc Record Global) → List Record
records_in records = map (λ (it : Arc Record Global). it.value) records

-- The changes of a commit that are recorded: one more than the most is too many as well.
abbrev pub listed : List Change → List Edit
listed changes = edits_of (take (most_changes + 1) changes)

-- a commit of these changes
abbrev pub commit_of : List Change → machine.Call
commit_of changes = ToCommit (listed changes)
