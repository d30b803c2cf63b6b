-- Checkpoints of a full history under a lock, and keys that are out since a take.
use Rattle.std.specs.Prelude.{◌≡◌, ◌<◌, ◌⊎◌, ◌++◌, ◌∷◌, [], ℕ, Bool, IsTrue, true, false, List, Option, Some, None, Result, Ok, Err}
use Rattle.fb_bench.specs.{Jobs.declared.keys.key.Key.{Key}, Jobs.KeyOrder.{same_key}, Jobs.Reads.{PlainJob}, History.Checkpoints.{checking, checkpointed, ChecksAs}}
use Rattle.fb_bench.specs.{History.Limits.{Bounds}, History.Machine.{ToGiveBack}}
use Rattle.fb_bench.specs.History.BenchView.{Record, BenchView, IsFull, all_turns, last_number, record_numbered, state_of}
use Rattle.fb_bench.specs.{History.declared.answers.CheckpointRefused.{CheckpointRefused}, Requests.{job_of}}
use Rattle.fb_locked.specs.{Calls.{Keeps, Stays}, Refusals.{refusal_of, RefusedAs, IsRefusalOf}}
use Rattle.fb_locked.specs.{Seats.{LockedView, SeatView, ReceiptView, IsReceiptOf, seat_after}, declared.locked.SharedRefused.{SharedRefused}}
use Rattle.fb_locked.specs.declared.locked.SharedRefused.TheVariants.{HistoryFull}

-- the locked workbench, with a history that begins from the state to which it has led
abbrev pub locked_rolled : Bounds → LockedView → LockedView
locked_rolled limits locked = record locked { bench = checkpointed limits locked.bench }

-- A history that is full, or due to roll, begins again from the state to which it has led, and any other one stays unchanged. It stays too if the checkpoint
-- is refused.
abbrev pub MakesRoom : {T : Type 0} → Bounds → Bool → LockedView → Result T CheckpointRefused → LockedView → Type 0
MakesRoom limits due old (Ok done) new =
    ((IsFull old.bench.log ⊎ IsTrue due) × (new ≡ locked_rolled limits old)) ⊎ ((IsFull old.bench.log → ⊥) × (due ≡ false) × (new ≡ old))
MakesRoom limits due old (Err refused) new = (IsFull old.bench.log ⊎ IsTrue due) × ChecksAs (checking limits old.bench) (Err refused) × (new ≡ old)

-- ---- keys that are out since a take

abbrev pub hands_out : Key → Option PlainJob → Bool
hands_out key None = false
hands_out key (Some job) = same_key job.key key

-- the record hands the key out
abbrev pub takes : Key → Record → Bool
takes key it = hands_out key (job_of it.reply)

abbrev pub takes_in : Key → Option Record → Bool
takes_in key None = false
takes_in key (Some it) = takes key it

-- the record of this number hands the key out
abbrev pub takes_at : BenchView → Key → ℕ → Bool
takes_at bench key number = takes_in key (record_numbered bench number)

-- a record after that of this number hands the key out
abbrev pub IsTakenAfter : BenchView → Key → ℕ → Type 0
IsTakenAfter bench key since = (number : ℕ) × (since < number) × (takes_at bench key number ≡ true)

-- the key is handed out, and no record since the start that is after this number hands it out
abbrev pub IsOutSince : BenchView → Key → ℕ → Type 0
IsOutSince bench key since = ((state_of bench).out key ≡ true) × (IsTakenAfter bench key since → ⊥)

-- If it is out since then, it is given back by a recorded call whose receipt is kept, or that is refused as any call. If not, nothing changes.
abbrev pub Returns : {T : Type 0} → ℕ → LockedView → SeatView → Key → Result T SharedRefused → List ReceiptView → LockedView → SeatView → List ReceiptView → Type 0
Returns since locked seat key (Ok done) old locked' seat' new =
    (IsOutSince locked.bench key since × Keeps locked seat (ToGiveBack key) old locked' seat' new) ⊎ ((IsOutSince locked.bench key since → ⊥) × Stays locked seat old locked' seat' new)
Returns since locked seat key (Err refused) old locked' seat' new = IsOutSince locked.bench key since × RefusedAs (refusal_of locked seat) refused × Stays locked seat old locked' seat' new

-- what this does to the seat and its receipts: one receipt more, of the key given back; or nothing changes
abbrev pub MayReturn : {T : Type 0} → SeatView → Key → Result T SharedRefused → List ReceiptView → SeatView → List ReceiptView → Type 0
MayReturn seat key (Ok done) old seat' new =
    ((receipt : ReceiptView) × (new ≡ old ++ receipt ∷ []) × IsReceiptOf seat (ToGiveBack key) receipt × (seat' ≡ seat_after seat receipt)) ⊎ ((new ≡ old) × (seat' ≡ seat))
MayReturn seat key (Err refused) old seat' new = IsRefusalOf seat refused × (new ≡ old) × (seat' ≡ seat)

-- ---- laws

-- After such a checkpoint the state, the numbers and the callers' turns are as before, and there is no record; a seat whose call only a full history
-- refused is no longer refused.
pub record IsRollUnseen (limits : Bounds) (locked : LockedView) : Type 0 where
  pub state : state_of (locked_rolled limits locked).bench ≡ state_of locked.bench
  pub last : last_number (locked_rolled limits locked).bench ≡ last_number locked.bench
  pub turns : (caller : ℕ) → all_turns (locked_rolled limits locked).bench caller ≡ all_turns locked.bench caller
  pub none : (number : ℕ) → record_numbered (locked_rolled limits locked).bench number ≡ None
  pub seats : (seat : SeatView) → refusal_of locked seat ≡ Some HistoryFull → refusal_of (locked_rolled limits locked) seat ≡ None
