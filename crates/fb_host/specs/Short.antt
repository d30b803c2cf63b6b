-- Callers of which receipts are missing.
use Rattle.std.specs.Prelude.{ℕ, List, Bool, nat_lt}
use Rattle.fb_locked.specs.{History.BenchView.{BenchView, turns_of}, Closing.{receipts_of}, Seats.{ReceiptView}}

-- a caller with fewer receipts than records since the start
abbrev pub is_short : BenchView → List ReceiptView → ℕ → Bool
is_short bench receipts caller = nat_lt (receipts_of caller receipts) (turns_of caller bench.log.records)
