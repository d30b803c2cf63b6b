-- The reply to each answer of the machine.
use Rattle.std.specs.Prelude.{ℕ, None, Option, Some, false, true}
use Rattle.serde_json.specs.Data.{Data}
use Rattle.fb_messages.specs.Jobs.Reads.{PlainJob}
use Rattle.fb_messages.specs.Replies.{checkpointed, committed, delivered, job_given, no_job, pending_said, refused, refused_base, refused_unit, returned, showing_said, value_said}
use Rattle.fb_messages.specs.ReplyView.{refusal_text}
use Rattle.fb_bench.specs.History.Reads.{Showing}
use Rattle.fb_bench.specs.History.Checkpoints.{Checking, KeptUpTo, OverNumbers, OverUnits}
use Rattle.fb_bench.specs.History.Machine.{Finds, OfAsk, OfCommit, OfDeliver, OfGiveBack, OfTake, Reply, Shown, Unknown, Waits}
use Rattle.fb_bench.specs.Calls.{Answer, BehindHistory, Checked, CheckpointAnswer, FullHistory, Replied, SharedHistory}
use Rattle.fb_bench.specs.History.declared.answers.Committed.{Committed}
use Rattle.fb_bench.specs.History.declared.answers.Committed.TheVariants.{Done, NoChange, NoSuchUnit, SameUnitTwice, StaleBase, TooManyChanges, TooManyUnits}
use Rattle.fb_bench.specs.History.declared.answers.Delivered.{Delivered}
use Rattle.fb_bench.specs.History.declared.answers.Delivered.TheVariants.{Accepted, NoSuchKey, NotPending, Stale}
use Rattle.fb_bench.specs.{History.declared.answers.GivenBack.{GivenBack}, History.declared.answers.GivenBack.TheVariants.{NothingOut, Returned}}
use Rattle.fb_messages.specs.declared.reply.Refusal.TheVariants as because

abbrev pub commit_said : Committed → Data
commit_said (Done commit) = committed commit
commit_said NoChange = refused (refusal_text because.NoChange)
commit_said TooManyChanges = refused (refusal_text because.TooManyChanges)
commit_said (SameUnitTwice unit) = refused_unit (refusal_text because.SameUnitTwice) unit
commit_said (StaleBase unit current) = refused_base unit current
commit_said (NoSuchUnit unit) = refused_unit (refusal_text because.NoSuchUnit) unit
commit_said TooManyUnits = refused (refusal_text because.TooManyUnits)

-- a job gets this number
abbrev pub take_said : ℕ → Option PlainJob → Data
take_said n None = no_job
take_said n (Some job) = job_given n job.key

abbrev pub deliver_said : Delivered → Data
deliver_said Accepted = delivered
deliver_said NoSuchKey = refused (refusal_text because.NoSuchKey)
deliver_said NotPending = refused (refusal_text because.NotPending)
deliver_said (Stale unit) = refused_unit (refusal_text because.Stale) unit

abbrev pub give_back_said : GivenBack → Data
give_back_said Returned = returned true
give_back_said NothingOut = returned false

abbrev pub ask_said : Shown → Data
ask_said (Finds finding) = value_said finding
ask_said Waits = pending_said
ask_said Unknown = refused (refusal_text because.NoSuchKey)

abbrev pub reply_said : ℕ → Reply → Data
reply_said n (OfCommit answer) = commit_said answer
reply_said n (OfTake job) = take_said n job
reply_said n (OfDeliver answer) = deliver_said answer
reply_said n (OfGiveBack answer) = give_back_said answer
reply_said n (OfAsk shown) = ask_said shown

abbrev pub checking_said : Checking → Data
checking_said (KeptUpTo before) = checkpointed before
checking_said (OverUnits units) = refused (refusal_text because.UnitsOver)
checking_said OverNumbers = refused (refusal_text because.NumbersOver)

-- the reply to an answer; a job gets this number
abbrev pub said_to : ℕ → Answer → Data
said_to n (Replied reply) = reply_said n reply
said_to n FullHistory = refused (refusal_text because.HistoryFull)
said_to n BehindHistory = refused (refusal_text because.Behind)

-- the reply to the answer to a checkpoint
abbrev pub checkpoint_said : CheckpointAnswer → Data
checkpoint_said (Checked checking) = checking_said checking
checkpoint_said SharedHistory = refused (refusal_text because.NotAlone)

-- the reply to a read
abbrev pub read_said : Option Showing → Data
read_said (Some shown) = showing_said shown
read_said None = refused (refusal_text because.Behind)
