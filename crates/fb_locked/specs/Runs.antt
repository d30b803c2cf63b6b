-- Calls with one seat, one after another, and those that a worker makes.
use Rattle.std.specs.Prelude.{◌≡◌, ℕ, ◌≤◌, ◌<◌, ◌++◌, [], ◌∷◌, List, Option, Some, None, length, ⊤}
use Rattle.fb_bench.specs.{Jobs.Reads.{PlainJob}, History.Machine.{Call, ToCommit, ToTake, ToDeliver, ToGiveBack, ToAsk, Reply}, Requests.{job_of}}
use Rattle.fb_locked.specs.{declared.look.Look.{Look}, declared.look.Look.TheVariants.{Ended, Nothing, Taken}, declared.look.WorkEnd.{WorkEnd}}
use Rattle.fb_locked.specs.declared.look.WorkEnd.TheVariants.{TurnsOver, Stopped, SeatDiffers, Behind, HistoryFull, Memory}
use Rattle.fb_locked.specs.Seats.{SeatView, ReceiptView, IsReceiptOf, seat_after}

-- the receipts are of calls with the seat, one after another
abbrev pub IsRun : SeatView → List ReceiptView → SeatView → Type 0
IsRun seat [] after = after ≡ seat
IsRun seat (receipt ∷ receipts) after = IsReceiptOf seat receipt.entry.call receipt × IsRun (seat_after seat receipt) receipts after

-- what a worker holds between two calls: no job; a job that it has taken; or it has given one back, and is done
pub data Hand : Type 0 where
  Empty : Hand
  Holds : PlainJob → Hand
  Gave : Hand

abbrev pub hand_with : Option PlainJob → Hand
hand_with None = Empty
hand_with (Some job) = Holds job

-- what it holds after a call with this reply
abbrev pub hand_after : Call → Reply → Hand
hand_after ToTake answer = hand_with (job_of answer)
hand_after (ToGiveBack key) answer = Gave
hand_after (ToDeliver job) answer = Empty
hand_after (ToCommit edits) answer = Empty
hand_after (ToAsk key) answer = Empty

abbrev pub IsTake : Call → Type 0
IsTake ToTake = Unit {0}
IsTake _ = ⊥

-- the result of the job, or its key given back
abbrev pub Settles : PlainJob → Call → Type 0
Settles job (ToDeliver result) = result ≡ job
Settles job (ToGiveBack key) = key ≡ job.key
Settles job _ = ⊥

-- the calls that a worker makes: if it holds nothing it takes, and a job that it holds it settles before it takes the next one
abbrev pub Follows : Hand → Call → Type 0
Follows Empty call = IsTake call
Follows (Holds job) call = Settles job call
Follows Gave call = ⊥

-- the receipts are of a worker's calls, which lead from what it held to what it holds now
abbrev pub IsWork : Hand → List ReceiptView → Hand → Type 0
IsWork hand [] now = now ≡ hand
IsWork hand (receipt ∷ receipts) now = Follows hand receipt.entry.call × IsWork (hand_after receipt.entry.call receipt.entry.reply) receipts now

-- Receipts of calls with the seat, as a worker makes them, are added at the end, at most this number.
pub record AddsWork (hand : Hand) (most : ℕ) (seat : SeatView) (old new : List ReceiptView) (after : SeatView) (now : Hand) : Type 0 where
  pub added : List ReceiptView
  pub behind : new ≡ old ++ added
  pub run : IsRun seat added after
  pub work : IsWork hand added now
  pub few : length added ≤ most

-- an end that comes after a call was refused
abbrev pub IsRefusal : WorkEnd → Type 0
IsRefusal TurnsOver = ⊥
IsRefusal Stopped = ⊥
IsRefusal (SeatDiffers turns book) = Unit {0}
IsRefusal (Behind seen len) = Unit {0}
IsRefusal HistoryFull = Unit {0}
IsRefusal Memory = Unit {0}

-- What a worker may hold at its end: a job only if a call was refused, and it has given one back only for lack of memory.
abbrev pub EndsWith : Hand → WorkEnd → Type 0
EndsWith Empty end = Unit {0}
EndsWith (Holds job) end = IsRefusal end
EndsWith Gave end = end ≡ Memory

-- a worker that continues holds nothing
abbrev pub GoesOnWith : Hand → Option WorkEnd → Type 0
GoesOnWith hand None = hand ≡ Empty
GoesOnWith hand (Some end) = EndsWith hand end

-- a worker's calls up to its end, or to the point from which it continues
abbrev pub Works : Hand → ℕ → SeatView → List ReceiptView → List ReceiptView → SeatView → Option WorkEnd → Type 0
Works hand most seat old new after end = (now : Hand) × AddsWork hand most seat old new after now × GoesOnWith now end

-- What a look for a job adds: the receipt of the take if it takes one, and otherwise nothing.
abbrev pub AddsLook : Look → SeatView → List ReceiptView → List ReceiptView → SeatView → Type 0
AddsLook (Taken job) seat old new after = AddsWork Empty 1 seat old new after (Holds job)
AddsLook Nothing seat old new after = (new ≡ old) × (after ≡ seat)
AddsLook (Ended end) seat old new after = (new ≡ old) × (after ≡ seat)

-- If a look takes a job, there is room for one more after this number of receipts.
abbrev pub LeavesRoom : Look → ℕ → ℕ → Type 0
LeavesRoom (Taken job) count capacity = count < capacity
LeavesRoom Nothing count capacity = ⊤
LeavesRoom (Ended end) count capacity = ⊤
