-- What the receipts of a session show of its calls.
use Rattle.std.specs.Prelude.{[], ◌∷◌, List}
use Rattle.fb_wire.specs.{History.Machine.{Call, Reply}, Bench.Calls.{AskedCall, AskedCheckpoint, AskedRead, BehindHistory, Exchange, FullHistory, Replied}}
use Rattle.fb_shared.specs.Locked.Seats.{ReceiptView}

-- an answered call comes first, with its reply; a refused one, a checkpoint and a read are left out
abbrev pub answered_before : Exchange → List (Call × Reply) → List (Call × Reply)
answered_before (AskedCall call (Replied reply)) rest = (call, reply) ∷ rest
answered_before (AskedCall call FullHistory) rest = rest
answered_before (AskedCall call BehindHistory) rest = rest
answered_before (AskedCheckpoint limits answer) rest = rest
answered_before (AskedRead reading shown) rest = rest

-- the calls that were answered, with their replies, in order
abbrev pub answered_in : List Exchange → List (Call × Reply)
answered_in [] = []
answered_in (exchange ∷ exchanges) = answered_before exchange (answered_in exchanges)

-- the call of a receipt, and its reply
abbrev pub call_shown : ReceiptView → Call × Reply
call_shown receipt = (receipt.entry.call, receipt.entry.reply)
