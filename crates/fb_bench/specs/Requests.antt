-- A request as a call.
use Rattle.std.specs.Prelude.{Option, None}
use Rattle.fb_entries.specs.Jobs.Reads.{PlainJob}
use Rattle.fb_history.specs.Machine.{Call, ToCommit, ToTake, ToDeliver, ToGiveBack, ToAsk, Reply, OfCommit, OfTake, OfDeliver, OfGiveBack, OfAsk}
use Rattle.fb_bench.specs.{Records.{listed, job_in, shown_in}, declared.answers.Answered.{Answered}, declared.request.Request.{Request}}
use Rattle.fb_bench.specs.declared.request.Request.TheVariants.{Commit, Take, Deliver, GiveBack, Ask}
use Rattle.fb_bench.specs.declared.answers.Answered.TheVariants as answer

abbrev pub call_for : Request → Call
call_for (Commit changes) = ToCommit (listed changes.now)
call_for Take = ToTake
call_for (Deliver finished) = ToDeliver finished.now
call_for (GiveBack key) = ToGiveBack key
call_for (Ask key) = ToAsk key

-- an answer of the program as the machine's
abbrev pub reply_in : Answered → Reply
reply_in (answer.Commit given) = OfCommit given
reply_in (answer.Take given) = OfTake (job_in given)
reply_in (answer.Deliver given) = OfDeliver given
reply_in (answer.GiveBack given) = OfGiveBack given
reply_in (answer.Ask given) = OfAsk (shown_in given)

-- the job that an answer hands out
abbrev pub job_of : Reply → Option PlainJob
job_of (OfTake job) = job
job_of (OfCommit answer) = None
job_of (OfDeliver answer) = None
job_of (OfGiveBack answer) = None
job_of (OfAsk shown) = None
