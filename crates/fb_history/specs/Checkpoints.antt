-- A history that begins again from the state to which it has led.
use Rattle.std.specs.Prelude.{◌≡◌, ℕ, ◌+◌, ◌^◌, List, [], filter, length, None, Result, Ok, Err, if◌then◌else◌, nat_lt}
use Rattle.fb_jobs.specs.{Library.Texts.{Texts}, declared.keys.key.Key.{Key}}
use Rattle.fb_history.specs.{Events.{last_event_of}, Limits.{Bounds}, Machine.{keys_of}, BenchView.{BenchView, all_turns, last_number, pages_after, record_numbered, state_of}}
use Rattle.fb_history.specs.{declared.answers.CheckpointRefused.{CheckpointRefused}, declared.answers.CheckpointRefused.TheVariants.{UnitsOver, NumbersOver, Memory}}

-- the workbench that begins from these texts, commits and marks, after the calls of another
abbrev pub restarted : Bounds → Texts → ℕ → List Key → List Key → BenchView → BenchView
restarted limits units commits pending out bench =
    record {
      origin =
          record {
            most_units = limits.units;
            units = units;
            commits = commits;
            pending = pending;
            out = out;
            before = last_number bench;
            pages = pages_after bench.origin.pages bench.log.records;
            last_event = last_event_of bench;
          };
      log = record { limit = limits.history; records = [] };
    }

-- the workbench that begins from the state to which this one has led
abbrev pub checkpointed : Bounds → BenchView → BenchView
checkpointed limits bench =
    let state = state_of bench in
    restarted limits state.units state.commits (filter state.pending (keys_of state.units)) (filter state.out (keys_of state.units)) bench

-- the result of a checkpoint, apart from lack of memory
pub data Checking : Type 0 where
  KeptUpTo : (before : ℕ) → Checking
  OverUnits : (count : ℕ) → Checking
  OverNumbers : Checking

-- more units than the new limit, a last number beyond 64 bits, or the number of all calls so far
abbrev pub checking : Bounds → BenchView → Checking
checking limits bench =
    if nat_lt limits.units (length (state_of bench).units) then OverUnits (length (state_of bench).units)
    else (if nat_lt (last_number bench + limits.history) (2 ^ 64) then KeptUpTo (last_number bench) else OverNumbers)

-- the workbench after a checkpoint with this result
abbrev pub bench_checked : Checking → Bounds → BenchView → BenchView
bench_checked (KeptUpTo before) limits bench = checkpointed limits bench
bench_checked (OverUnits count) limits bench = bench
bench_checked OverNumbers limits bench = bench

-- The answer is the result of the checkpoint. Memory can run out only if nothing else is against it
abbrev pub ChecksAs : Checking → Result ℕ CheckpointRefused → Type 0
ChecksAs (KeptUpTo before) (Ok answer) = answer ≡ before
ChecksAs (KeptUpTo before) (Err refused) = refused ≡ Memory
ChecksAs (OverUnits count) result = result ≡ Err (UnitsOver count)
ChecksAs OverNumbers result = result ≡ Err NumbersOver

-- ---- laws

-- no later call notices it: the history begins from the same state, with another number for the most units
abbrev pub IsUnseen : Bounds → BenchView → Type 0
IsUnseen limits bench = state_of (checkpointed limits bench) ≡ record (state_of bench) { most_units = limits.units }

-- two in a row do what the second one does
abbrev pub AreOne : Bounds → Bounds → BenchView → Type 0
AreOne first second bench = checkpointed second (checkpointed first bench) ≡ checkpointed second bench

-- the numbers and the calls of each caller are counted further, and no record is left
pub record NumbersGoOn (limits : Bounds) (bench : BenchView) : Type 0 where
  pub last : last_number (checkpointed limits bench) ≡ last_number bench
  pub turns : (caller : ℕ) → all_turns (checkpointed limits bench) caller ≡ all_turns bench caller
  pub none : (number : ℕ) → record_numbered (checkpointed limits bench) number ≡ None
