-- Seats and receipts against the history.
use Rattle.std.specs.Prelude.{◌≡◌, ◌==◌, ◌&&◌, ℕ, ◌<◌, ◌≤◌, List, Bool, true, false, not, take, min, Option, None, Some, Result, Ok, Err, slice_get, count_by, All}
use Rattle.std.specs.{List.{list_any, Contains}, BTreeMap.{BTreeMap}}
use Rattle.fb_bench.specs.History.BenchView.{Record, BenchView, all_turns, record_numbered, turns_of}
use Rattle.fb_locked.specs.{Seats.{SeatView, ReceiptView}, Book.{is_caller, IsBookOf}, declared.close.CloseError.{CloseError}}
use Rattle.fb_locked.specs.declared.close.CloseError.TheVariants.{SeatMissing, SeatDiffers, ReceiptDiffers, ReceiptTwice, Memory}

-- a seat of this caller is among the seats
abbrev pub has_seat : List SeatView → ℕ → Bool
has_seat seats q = list_any (λ s. s.caller == q) seats

-- a seat of this caller is among the seats whose number of calls is not its caller's
abbrev pub has_wrong_seat : BenchView → List SeatView → ℕ → Bool
has_wrong_seat bench seats q = list_any (λ s. s.caller == q && not (all_turns bench q == s.turns)) seats

-- a caller whose seat is not among the seats
abbrev pub is_missing : ℕ → BenchView → List SeatView → ℕ → Bool
is_missing callers bench seats q = is_caller callers bench q && not (has_seat seats q)

-- each caller's seat is there
abbrev pub AreSeated : ℕ → BenchView → List SeatView → Type 0
AreSeated callers bench seats = (q : ℕ) → is_missing callers bench seats q ≡ false

-- no seat differs from what its caller has called
abbrev pub AreSeatsRight : BenchView → List SeatView → Type 0
AreSeatsRight bench seats = (q : ℕ) → has_wrong_seat bench seats q ≡ false

-- the record of the receipt's number is the receipt's. A call from before the history begins no longer has a record
abbrev pub IsReceiptRight : BenchView → ReceiptView → Type 0
IsReceiptRight bench receipt = record_numbered bench receipt.number ≡ Some receipt.entry

-- how many of the receipts have this number
abbrev pub times : ℕ → List ReceiptView → ℕ
times number receipts = count_by (λ c. c.number == number) receipts

-- one of the receipts has this number
abbrev pub has_number : List ReceiptView → ℕ → Bool
has_number receipts number = list_any (λ c. c.number == number) receipts

-- how many of the receipts are of this caller
abbrev pub receipts_of : ℕ → List ReceiptView → ℕ
receipts_of caller receipts = count_by (λ c. c.entry.caller == caller) receipts

-- the lesser of the caller that was found and one that is wrong
abbrev pub lesser_of : Option ℕ → ℕ → Bool → Option ℕ
lesser_of o q false = o
lesser_of None q true = Some q
lesser_of (Some p) q true = Some (min q p)

-- each receipt is right, and no number comes twice
pub record AreReceiptsRight (bench : BenchView) (receipts : List ReceiptView) : Type 0 where
  pub right : All (IsReceiptRight bench) receipts
  pub once : (number : ℕ) → times number receipts ≤ 1

-- all seats and receipts are right
pub record AgreesWith (callers : ℕ) (bench : BenchView) (seats : List SeatView) (receipts : List ReceiptView) : Type 0 where
  pub seated : AreSeated callers bench seats
  pub turns : AreSeatsRight bench seats
  pub shown : AreReceiptsRight bench receipts

-- numbers rise with the turns of a caller
abbrev pub NumbersRise : BenchView → Type 0
NumbersRise bench =
    (m n : ℕ) (earlier later : Record) → record_numbered bench m ≡ Some earlier → record_numbered bench n ≡ Some later → earlier.caller ≡ later.caller
    → earlier.turn < later.turn → m < n

-- of each record of the caller there is a receipt
abbrev pub AreShown : ℕ → BenchView → List ReceiptView → Type 0
AreShown caller bench receipts =
    (number : ℕ) (it : Record) → record_numbered bench number ≡ Some it → it.caller ≡ caller → Contains receipts (record { number = number; entry = it })

-- a caller with the same number of receipts and of records has shown all its records
abbrev pub EnoughShowAll : BenchView → List ReceiptView → Type 0
EnoughShowAll bench receipts = (caller : ℕ) → receipts_of caller receipts ≡ turns_of caller bench.log.records → AreShown caller bench receipts

-- the k-th receipt is the first that is wrong, and has this number
abbrev pub IsFirstWrong : BenchView → List ReceiptView → ℕ → ℕ → Type 0
IsFirstWrong bench receipts k number =
    AreReceiptsRight bench (take k receipts)
    × ((receipt : ReceiptView) × (slice_get receipts k ≡ Some receipt) × (receipt.number ≡ number) × (IsReceiptRight bench receipt → ⊥))

-- the k-th receipt is right, as are those before it, and one of these has its number
abbrev pub IsFirstTwice : BenchView → List ReceiptView → ℕ → ℕ → Type 0
IsFirstTwice bench receipts k number =
    AreReceiptsRight bench (take k receipts)
    × ((receipt : ReceiptView) × (slice_get receipts k ≡ Some receipt) × (receipt.number ≡ number) × IsReceiptRight bench receipt)
    × (times number (take k receipts) ≡ 1)

-- the first fault of a list of receipts
abbrev pub IsReceiptFault : BenchView → List ReceiptView → CloseError → Type 0
IsReceiptFault bench receipts (SeatMissing q) = ⊥
IsReceiptFault bench receipts (SeatDiffers q) = ⊥
IsReceiptFault bench receipts (ReceiptDiffers number) = (k : ℕ) × IsFirstWrong bench receipts k number
IsReceiptFault bench receipts (ReceiptTwice number) = (k : ℕ) × IsFirstTwice bench receipts k number
IsReceiptFault bench receipts Memory = ⊥

-- each receipt is right and none comes twice, or this is their first fault
abbrev pub ChecksReceipts : {R : Type 0} → BenchView → List ReceiptView → Result R CloseError → Type 0
ChecksReceipts bench receipts (Ok done) = AreReceiptsRight bench receipts
ChecksReceipts bench receipts (Err fault) = IsReceiptFault bench receipts fault

-- the least number that passes, or none does
abbrev pub IsLeast : (ℕ → Bool) → Option ℕ → Type 0
IsLeast test None = (q : ℕ) → test q ≡ false
IsLeast test (Some q) = (test q ≡ true) × ((p : ℕ) → p < q → test p ≡ false)

-- The fault applies, and no earlier one does. Lack of memory is no fault of seats or receipts, and comes after them all.
abbrev pub IsFirstFault : ℕ → BenchView → List SeatView → List ReceiptView → CloseError → Type 0
IsFirstFault callers bench seats receipts (SeatMissing q) = IsLeast (is_missing callers bench seats) (Some q)
IsFirstFault callers bench seats receipts (SeatDiffers q) = AreSeated callers bench seats × IsLeast (has_wrong_seat bench seats) (Some q)
IsFirstFault callers bench seats receipts (ReceiptDiffers number) =
    AreSeated callers bench seats × AreSeatsRight bench seats × ((k : ℕ) × IsFirstWrong bench receipts k number)
IsFirstFault callers bench seats receipts (ReceiptTwice number) =
    AreSeated callers bench seats × AreSeatsRight bench seats × ((k : ℕ) × IsFirstTwice bench receipts k number)
IsFirstFault callers bench seats receipts Memory = AgreesWith callers bench seats receipts

-- all seats and receipts are right, and these are the counts; or this is the first fault
abbrev pub ChecksAll : ℕ → BenchView → List SeatView → List ReceiptView → Result (BTreeMap ℕ ℕ) CloseError → Type 0
ChecksAll callers bench seats receipts (Ok counts) = AgreesWith callers bench seats receipts × IsBookOf counts callers bench
ChecksAll callers bench seats receipts (Err fault) = IsFirstFault callers bench seats receipts fault

-- The workbench and the counts of a close, where seats were made for this number of callers: the seats and the receipts agree with it.
abbrev pub IsCloseOf : ℕ → List SeatView → List ReceiptView → BenchView → BTreeMap ℕ ℕ → Type 0
IsCloseOf callers seats receipts bench counts =
    AgreesWith callers bench seats receipts × IsBookOf counts callers bench

-- Of some workbench, for whose callers seats were made, this is the first fault.
abbrev pub IsFaultOf : ℕ → List SeatView → List ReceiptView → CloseError → Type 0
IsFaultOf callers seats receipts fault = (bench : BenchView) × IsFirstFault callers bench seats receipts fault
