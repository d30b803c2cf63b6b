-- The receipts of a caller's calls.
use Rattle.std.specs.Prelude.{◌≡◌, ◌++◌, List}
use Rattle.fb_shared.specs.{Locked.Runs.{IsRun}, Locked.Seats.{ReceiptView, SeatView}}

-- Receipts of calls with the seat, one after another, were added at the end, and they lead to the new seat.
abbrev pub AddsRun : SeatView → List ReceiptView → SeatView → List ReceiptView → Type 0
AddsRun seat old after new = (added : List ReceiptView) × (new ≡ old ++ added) × IsRun seat added after
