-- Receipts that show all calls of their callers.
use Rattle.std.specs.Prelude.{◌≡◌, ◌≤◌, ℕ, All, List}
use Rattle.fb_wire.specs.History.BenchView.{BenchView, turns_of}
use Rattle.fb_shared.specs.{Locked.Closing.{AreReceiptsRight, receipts_of}, Locked.Seats.{ReceiptView, SeatView}}

-- no call was made with the seat
abbrev pub IsNew : SeatView → Type 0
IsNew seat = seat.turns ≡ 0

-- there are at least as many receipts of the seat's caller as calls that were made with it
abbrev pub IsShown : List ReceiptView → SeatView → Type 0
IsShown receipts seat = seat.turns ≤ receipts_of seat.caller receipts

abbrev pub AreShown : List ReceiptView → List SeatView → Type 0
AreShown receipts seats = All (IsShown receipts) seats

-- Each receipt is the record at its number, none comes twice, and no caller has fewer of them than records: so the receipts are those of all
-- records, each once.
abbrev pub ShowsAll : BenchView → List ReceiptView → Type 0
ShowsAll bench receipts = AreReceiptsRight bench receipts × ((caller : ℕ) → turns_of caller bench.log.records ≤ receipts_of caller receipts)
