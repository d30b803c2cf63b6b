-- How a call, a checkpoint or a read relates a desk before it and after it.
use Rattle.std.specs.{Prelude.{◌≡◌, ◌⊎◌, ℕ, None, Option, Some, Result, Ok, Err, option_map}, declared.alloc.AllocError.{AllocError}}
use Rattle.fb_entries.specs.Jobs.Reads.{PlainJob}
use Rattle.fb_history.specs.{Checkpoints.{Checking, KeptUpTo, OverUnits, OverNumbers}, Limits.{Bounds}}
use Rattle.fb_history.specs.Machine.{Call, ToCommit, ToTake, ToDeliver, ToGiveBack, ToAsk, Reply, OfCommit, OfTake, OfDeliver, OfGiveBack, OfAsk}
use Rattle.fb_history.specs.{declared.answers.Asked.{Asked}, declared.answers.Delivered.{Delivered}}
use Rattle.fb_history.specs.{Reads.{Showing, showing_in}, declared.reading.Reading.{Reading}}
use Rattle.fb_history.specs.declared.reading.Showing as made
use Rattle.fb_bench.specs.{Records.{job_in, shown_in}, declared.answers.Taken.{Taken}, declared.desk.DeskError.{DeskError}}
use Rattle.fb_bench.specs.{declared.desk.DeskError.TheVariants.{HistoryFull, Behind, Memory}, declared.desk.DeskCheckpointError.{DeskCheckpointError}}
use Rattle.fb_bench.specs.declared.desk.DeskCheckpointError.TheVariants as refused

-- what a desk answers to a call: a reply, or that the history is full, or `Behind`
pub data Answer : Type 0 where
  Replied : (reply : Reply) → Answer
  FullHistory : Answer
  BehindHistory : Answer

-- what a desk answers to a checkpoint: its result, or that the desk shares its workbench with others
pub data CheckpointAnswer : Type 0 where
  Checked : (checking : Checking) → CheckpointAnswer
  SharedHistory : CheckpointAnswer

-- a call or a checkpoint, with its answer; or a read, with what it shows, or nothing if the desk answers `Behind`
pub data Exchange : Type 0 where
  AskedCall : (call : Call) (answer : Answer) → Exchange
  AskedCheckpoint : (limits : Bounds) (answer : CheckpointAnswer) → Exchange
  AskedRead : (reading : Reading) (shown : Option Showing) → Exchange

-- a step of a desk that makes calls by the first relation, checkpoints by the second and reads by the third
abbrev pub Exchanges : {D : Type 0} → (D → Call → Answer → D → Type 0) → (D → Bounds → CheckpointAnswer → D → Type 0) → (D → Reading → Option Showing → D → Type 0) → D → Exchange → D → Type 0
Exchanges Step CheckpointStep ReadStep old (AskedCall call answer) new = Step old call answer new
Exchanges Step CheckpointStep ReadStep old (AskedCheckpoint limits answer) new = CheckpointStep old limits answer new
Exchanges Step CheckpointStep ReadStep old (AskedRead reading shown) new = ReadStep old reading shown new

-- a reply of the call's kind
abbrev pub Fits : Call → Reply → Type 0
Fits (ToCommit edits) (OfCommit answer) = Unit {0}
Fits ToTake (OfTake job) = Unit {0}
Fits (ToDeliver job) (OfDeliver answer) = Unit {0}
Fits (ToGiveBack key) (OfGiveBack answer) = Unit {0}
Fits (ToAsk key) (OfAsk shown) = Unit {0}
Fits _ _ = ⊥

-- ---- a desk before and after a call or a checkpoint

abbrev pub take_reply : Taken → Reply
take_reply taken = OfTake (job_in taken)

abbrev pub ask_reply : Asked → Reply
ask_reply asked = OfAsk (shown_in asked)

-- The call was answered, or refused as the answer states. For lack of memory nothing changed.
abbrev pub Serves : {D R : Type 0} → (D → Call → Answer → D → Type 0) → D → Call → (R → Reply) → Result R DeskError → D → Type 0
Serves Step old call reply_of (Ok answer) new = Step old call (Replied (reply_of answer)) new
Serves Step old call reply_of (Err HistoryFull) new = Step old call FullHistory new
Serves Step old call reply_of (Err Behind) new = Step old call BehindHistory new
Serves Step old call reply_of (Err Memory) new = new ≡ old

-- the call took a job, whose delivery has this result
abbrev pub DeliversTaken : {D : Type 0} → (D → Call → Answer → D → Type 0) → D → Result Delivered DeskError → D → Type 0
DeliversTaken {D} Step old result new = (mid : D) × (job : PlainJob) × Step old ToTake (Replied (OfTake (Some job))) mid × Serves Step mid (ToDeliver job) OfDeliver result new

-- A take, and the delivery of the job that it hands out. An error is that of the take, or comes after it.
abbrev pub ServesRound : {D : Type 0} → (D → Call → Answer → D → Type 0) → D → Result (Option Delivered) DeskError → D → Type 0
ServesRound Step old (Ok None) new = Step old ToTake (Replied (OfTake None)) new
ServesRound Step old (Ok (Some answer)) new = DeliversTaken Step old (Ok answer) new
ServesRound Step old (Err why) new = Serves Step old ToTake take_reply (Err why) new ⊎ DeliversTaken Step old (Err why) new

-- The checkpoint was made, or refused as the answer states. For lack of memory nothing changed.
abbrev pub ServesCheckpoint : {D : Type 0} → (D → Bounds → CheckpointAnswer → D → Type 0) → D → Bounds → Result ℕ DeskCheckpointError → D → Type 0
ServesCheckpoint Step old limits (Ok before) new = Step old limits (Checked (KeptUpTo before)) new
ServesCheckpoint Step old limits (Err (refused.UnitsOver count)) new = Step old limits (Checked (OverUnits count)) new
ServesCheckpoint Step old limits (Err refused.NumbersOver) new = Step old limits (Checked OverNumbers) new
ServesCheckpoint Step old limits (Err refused.NotAlone) new = Step old limits SharedHistory new
ServesCheckpoint Step old limits (Err refused.Memory) new = new ≡ old

-- The read was shown, or nothing since the desk answers `Behind`. For lack of memory nothing changed.
abbrev pub ServesRead : {D : Type 0} → (D → Reading → Option Showing → D → Type 0) → D → Reading → Result (Option made.Showing) AllocError → D → Type 0
ServesRead Step old reading (Ok shown) new = Step old reading (option_map showing_in shown) new
ServesRead Step old reading (Err e) new = new ≡ old

-- a desk that answers no reads
abbrev pub NoRead : {D : Type 0} → D → Reading → Option Showing → D → Type 0
NoRead old reading shown new = ⊥
