-- A workbench as one caller's desk.
use Rattle.std.specs.Prelude.{◌≡◌, ℕ, ◌≤◌, ◌<◌, length, Result, Err}
use Rattle.fb_history.specs.{Checkpoints.{KeptUpTo, checking, bench_checked}, Limits.{Bounds}, Machine.{Call, reply}, BenchView.{BenchView, state_of, recorded}}
use Rattle.fb_bench.specs.Calls.{Answer, Replied, FullHistory, BehindHistory, CheckpointAnswer, Checked, SharedHistory, Exchange, Exchanges, NoRead}
use Rattle.fb_bench.specs.{declared.desk.DeskError.{DeskError}, declared.desk.DeskCheckpointError.{DeskCheckpointError}, declared.desk.Solo.{Solo}}
use Rattle.fb_bench.specs.declared.desk.DeskError.TheVariants as refused
use Rattle.fb_bench.specs.declared.desk.DeskCheckpointError.TheVariants as unmade

-- The machine's reply, recorded, if the history has room. If it has none, nothing changes. The answer is never `Behind`.
abbrev pub IsCallStep : ℕ → BenchView → Call → Answer → BenchView → Type 0
IsCallStep caller old call (Replied answer) new = (length old.log.records < old.log.limit) × (answer ≡ reply (state_of old) call) × (new ≡ recorded old caller call)
IsCallStep caller old call FullHistory new = (old.log.limit ≤ length old.log.records) × (new ≡ old)
IsCallStep caller old call BehindHistory new = ⊥

-- A checkpoint with the answer that it must have, and the workbench after it. Nobody else uses the workbench.
abbrev pub IsCheckpointStep : BenchView → Bounds → CheckpointAnswer → BenchView → Type 0
IsCheckpointStep old limits (Checked it) new = (it ≡ checking limits old) × (new ≡ bench_checked it limits old)
IsCheckpointStep old limits SharedHistory new = ⊥

abbrev pub IsStep : ℕ → BenchView → Exchange → BenchView → Type 0
IsStep caller = Exchanges (IsCallStep caller) IsCheckpointStep NoRead

-- memory can run out for a call only if the history has room for it
abbrev pub IsOpenCall : {R : Type 0} → BenchView → Result R DeskError → Type 0
IsOpenCall bench (Err refused.Memory) = length bench.log.records < bench.log.limit
IsOpenCall bench _ = Unit {0}

-- memory can run out for a checkpoint only if the checkpoint would otherwise be made
abbrev pub IsOpenCheckpoint : BenchView → Bounds → Result ℕ DeskCheckpointError → Type 0
IsOpenCheckpoint bench limits (Err unmade.Memory) = (before : ℕ) × (checking limits bench ≡ KeptUpTo before)
IsOpenCheckpoint bench limits _ = Unit {0}

-- a call or a checkpoint of the workbench that is lent, by the same caller
abbrev pub SoloCall : Solo → Call → Answer → Solo → Type 0
SoloCall old call answer new = IsCallStep old.caller old.bench.now call answer new.bench.now × (new.caller ≡ old.caller) × (new.bench.ghost_name ≡ old.bench.ghost_name)

abbrev pub SoloCheckpoint : Solo → Bounds → CheckpointAnswer → Solo → Type 0
SoloCheckpoint old limits answer new = IsCheckpointStep old.bench.now limits answer new.bench.now × (new.caller ≡ old.caller) × (new.bench.ghost_name ≡ old.bench.ghost_name)

abbrev pub SoloStep : Solo → Exchange → Solo → Type 0
SoloStep = Exchanges SoloCall SoloCheckpoint NoRead
