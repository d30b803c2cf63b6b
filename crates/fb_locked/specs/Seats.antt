-- What contracts see of a seat, of a receipt and of the workbench under a lock.
use Rattle.std.specs.Prelude.{◌≡◌, ℕ, ◌+◌, ◌<◌, List, Bool, Some, length, slice_get}
use Rattle.fb_bench.specs.{Calls.{Fits}, History.Machine.{Call}}
use Rattle.fb_bench.specs.History.BenchView.{Record, BenchView, all_turns, last_number, recorded, record_of, IsOrigin, IsReplay}

-- a seat: whose it is, how many calls of its caller it knows of, and the greatest number of a record that it has seen
pub record SeatView : Type 0 where
  pub caller : ℕ
  pub turns : ℕ
  pub seen : ℕ

-- a receipt: the number of a record, and that record
pub record ReceiptView : Type 0 where
  pub number : ℕ
  pub entry : Record

-- a workbench under a lock, for how many callers seats were made, and whether the workers are to stop
pub record LockedView : Type 0 where
  pub bench : BenchView
  pub callers : ℕ
  pub stopped : Bool

-- the locked workbench after one recorded call
abbrev pub locked_after : LockedView → ℕ → Call → LockedView
locked_after locked caller call = record locked { bench = recorded locked.bench caller call }

-- the receipt of the call that is recorded next
abbrev pub next_receipt : BenchView → ℕ → Call → ReceiptView
next_receipt bench caller call = record { number = last_number bench + 1; entry = record_of bench caller call }

-- The receipt is of the call as a workbench records it next: one that begins as a workbench may, and each of whose answers is the machine's. So
-- the reply is what that machine gives in the state that the calls before it lead to.
abbrev pub IsRecordedNext : ℕ → Call → ReceiptView → Type 0
IsRecordedNext caller call receipt =
    (bench : BenchView) × IsOrigin bench.origin × IsReplay bench × (receipt ≡ next_receipt bench caller call)

-- the seat after the call of this receipt
abbrev pub seat_after : SeatView → ReceiptView → SeatView
seat_after seat receipt = record seat { turns = receipt.entry.turn; seen = receipt.number }

-- the receipt is of this call, the seat's next, with the machine's reply, and newer than all that the seat has seen
pub record IsReceiptOf (seat : SeatView) (call : Call) (receipt : ReceiptView) : Type 0 where
  pub caller_is : receipt.entry.caller ≡ seat.caller
  pub call_is : receipt.entry.call ≡ call
  pub turn_is : receipt.entry.turn ≡ seat.turns + 1
  pub reply_fits : Fits call receipt.entry.reply
  pub later : seat.seen < receipt.number
  pub recorded_is : IsRecordedNext seat.caller call receipt

-- the seat of a caller as a history leaves it
abbrev pub seat_at : BenchView → ℕ → SeatView
seat_at bench caller = record { caller = caller; turns = all_turns bench caller; seen = last_number bench }

-- the seats of callers 1 to n as a history leaves them, in order
abbrev pub AreSeatsAt : BenchView → ℕ → List SeatView → Type 0
AreSeatsAt bench n seats = (length seats ≡ n) × ((k : ℕ) → k < n → slice_get seats k ≡ Some (seat_at bench (k + 1)))

-- the seat of a caller that has made no call
abbrev pub new_seat : ℕ → SeatView
new_seat caller = record { caller = caller; turns = 0; seen = 0 }

-- the new seats of callers 1 to n, in order
abbrev pub AreFirstSeats : ℕ → List SeatView → Type 0
AreFirstSeats n seats = (length seats ≡ n) × ((k : ℕ) → k < n → slice_get seats k ≡ Some (new_seat (k + 1)))
