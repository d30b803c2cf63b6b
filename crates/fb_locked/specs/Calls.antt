-- What a call with a seat does to the workbench under the lock, and what it does to its seat and its receipts.
use Rattle.std.specs.Prelude.{◌≡◌, ◌++◌, ◌∷◌, [], List, Result, Ok, Err, None}
use Rattle.fb_bench.specs.{History.Machine.{Call}, History.BenchView.{reply_at}, Requests.{reply_in}, declared.answers.Answered.{Answered}}
use Rattle.fb_locked.specs.declared.locked.SharedRefused.{SharedRefused}
use Rattle.fb_locked.specs.Seats.{LockedView, SeatView, ReceiptView, locked_after, next_receipt, seat_after, IsReceiptOf}
use Rattle.fb_locked.specs.Refusals.{refusal_of, RefusedAs, IsRefusalOf}

-- The call is the machine's next step, recorded, and its receipt is that record with its number. Or the first cause refuses it, or lack
-- of memory if there is no cause, and nothing changes.
abbrev pub Performs : {R : Type 0} → LockedView → SeatView → Call → (R → ReceiptView) → Result R SharedRefused → LockedView → SeatView → Type 0
Performs locked seat call receipt_of (Ok made) locked' seat' =
    (refusal_of locked seat ≡ None)
    × (receipt_of made ≡ next_receipt locked.bench seat.caller call)
    × (locked' ≡ locked_after locked seat.caller call)
    × (seat' ≡ seat_after seat (receipt_of made))
Performs locked seat call receipt_of (Err refused) locked' seat' =
    RefusedAs (refusal_of locked seat) refused × (locked' ≡ locked) × (seat' ≡ seat)

-- a receipt of the call, which the seat has then seen; or a refusal, and the seat unchanged
abbrev pub Answers : {R : Type 0} → SeatView → Call → (R → ReceiptView) → Result R SharedRefused → SeatView → Type 0
Answers seat call receipt_of (Ok made) seat' = IsReceiptOf seat call (receipt_of made) × (seat' ≡ seat_after seat (receipt_of made))
Answers seat call receipt_of (Err refused) seat' = IsRefusalOf seat refused × (seat' ≡ seat)

-- ---- with the receipt kept after others

-- the call is the machine's next step, recorded, and its receipt is added after the others
abbrev pub Keeps : LockedView → SeatView → Call → List ReceiptView → LockedView → SeatView → List ReceiptView → Type 0
Keeps locked seat call old locked' seat' new =
    (refusal_of locked seat ≡ None)
    × (new ≡ old ++ next_receipt locked.bench seat.caller call ∷ [])
    × (locked' ≡ locked_after locked seat.caller call)
    × (seat' ≡ seat_after seat (next_receipt locked.bench seat.caller call))

-- nothing changes
abbrev pub Stays : LockedView → SeatView → List ReceiptView → LockedView → SeatView → List ReceiptView → Type 0
Stays locked seat old locked' seat' new = (locked' ≡ locked) × (seat' ≡ seat) × (new ≡ old)

-- The call is made and its receipt kept, and the answer is the machine's. Or the first cause refuses it, or lack of memory if there is no cause,
-- and nothing changes.
abbrev pub PerformsInto : LockedView → SeatView → Call → Result Answered SharedRefused → List ReceiptView → LockedView → SeatView → List ReceiptView → Type 0
PerformsInto locked seat call (Ok answer) old locked' seat' new = (reply_in answer ≡ reply_at locked.bench call) × Keeps locked seat call old locked' seat' new
PerformsInto locked seat call (Err refused) old locked' seat' new = RefusedAs (refusal_of locked seat) refused × Stays locked seat old locked' seat' new

-- one receipt more, which is of the call, with its answer, and which the seat has then seen; or a refusal, and nothing changes
abbrev pub AnswersInto : SeatView → Call → Result Answered SharedRefused → List ReceiptView → SeatView → List ReceiptView → Type 0
AnswersInto seat call (Ok answer) old seat' new =
    (receipt : ReceiptView) × (new ≡ old ++ receipt ∷ []) × IsReceiptOf seat call receipt × (receipt.entry.reply ≡ reply_in answer) × (seat' ≡ seat_after seat receipt)
AnswersInto seat call (Err refused) old seat' new = IsRefusalOf seat refused × (new ≡ old) × (seat' ≡ seat)
