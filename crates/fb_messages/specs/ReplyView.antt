-- A reply of the code, as JSON.
use Rattle.std.specs.Prelude.{ℕ, List, codes}
use Rattle.serde_json.specs.Data.{Data}
use Rattle.fb_jobs.specs.Values.{finding_of}
use Rattle.fb_history.specs.Reads.{showing_in}
use Rattle.fb_messages.specs.Replies.{checkpointed, committed, delivered, job_given, no_job, pending_said, refused, refused_base, refused_unit, returned, showing_said, value_said, work_done, work_refused}
use Rattle.fb_messages.specs.declared.reply.Reply.{Reply}
use Rattle.fb_messages.specs.declared.reply.Reply.TheVariants.{Checkpointed, Committed, Delivered, Found, GivenBack, Job, NoJob, Pending, Refused, RefusedUnit, Shown, StaleBase, WorkRefused, Worked}
use Rattle.fb_messages.specs.declared.reply.Refusal.{Refusal}
use Rattle.fb_messages.specs.declared.reply.Refusal.TheVariants as because

abbrev pub refusal_text : Refusal → List ℕ
refusal_text because.BadRequest = codes "BadRequest"
refusal_text because.BadName = codes "BadName"
refusal_text because.TextTooLong = codes "TextTooLong"
refusal_text because.TooManyJobs = codes "TooManyJobs"
refusal_text because.NoSuchJob = codes "NoSuchJob"
refusal_text because.HistoryFull = codes "HistoryFull"
refusal_text because.Behind = codes "Behind"
refusal_text because.NoChange = codes "NoChange"
refusal_text because.TooManyChanges = codes "TooManyChanges"
refusal_text because.SameUnitTwice = codes "SameUnitTwice"
refusal_text because.NoSuchUnit = codes "NoSuchUnit"
refusal_text because.TooManyUnits = codes "TooManyUnits"
refusal_text because.NoSuchKey = codes "NoSuchKey"
refusal_text because.NotPending = codes "NotPending"
refusal_text because.Stale = codes "Stale"
refusal_text because.UnitsOver = codes "UnitsOver"
refusal_text because.NumbersOver = codes "NumbersOver"
refusal_text because.NotAlone = codes "NotAlone"

abbrev pub data_of : Reply → Data
data_of (Committed number) = committed number
data_of (StaleBase unit current) = refused_base unit current
data_of Pending = pending_said
data_of (Found value) = value_said (finding_of value.value)
data_of (Worked accepted) = work_done accepted
data_of (WorkRefused accepted refusal) = work_refused accepted (refusal_text refusal)
data_of (Job number key) = job_given number key
data_of NoJob = no_job
data_of Delivered = delivered
data_of (GivenBack was_out) = returned was_out
data_of (Checkpointed before) = checkpointed before
data_of (Shown shown) = showing_said (showing_in shown)
data_of (Refused refusal) = refused (refusal_text refusal)
data_of (RefusedUnit refusal unit) = refused_unit (refusal_text refusal) unit
