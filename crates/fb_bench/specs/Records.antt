-- Records of the program as contracts see them, and the jobs that are handed out.
use Rattle.std.specs.Prelude.{Option, Some, None}
use Rattle.fb_entries.specs.Jobs.Reads.{PlainJob}
pub use Rattle.fb_history.specs.Records.{wanted_job, text_edit, text_edits, call_of, shown_in, reply_of, records_in, listed, commit_of}
use Rattle.fb_bench.specs.{declared.answers.Taken.{Taken}, declared.answers.Taken.TheVariants.{Job, Nothing}}

-- the job that is handed out
abbrev pub job_in : Taken → Option PlainJob
job_in (Job job) = Some job
job_in Nothing = None
