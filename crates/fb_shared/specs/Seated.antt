-- A shared workbench as the desk of one seat. Nothing is known of the workbench except what the seat and its receipts show.
use Rattle.std.specs.Prelude.{◌≡◌, ◌++◌, ◌∷◌, [], Bool, List, Option, Some, None, Result, Ok, Err, ℕ}
use Rattle.fb_locked.specs.{History.Machine.{Call}, History.Limits.{Bounds}, History.declared.reading.Identity.{Identity}}
use Rattle.fb_locked.specs.{Bench.declared.answers.Answered.{Answered}, Bench.declared.desk.DeskError.{DeskError}, declared.locked.SharedRefused.{SharedRefused}}
use Rattle.fb_locked.specs.Bench.declared.desk.DeskError.TheVariants as desk
use Rattle.fb_locked.specs.declared.locked.SharedRefused.TheVariants as cause
use Rattle.fb_locked.specs.Bench.Calls.{Answer, Replied, FullHistory, BehindHistory, CheckpointAnswer, Checked, SharedHistory, Exchange, Exchanges, NoRead}
use Rattle.fb_locked.specs.Seats.{SeatView, ReceiptView, IsReceiptOf, seat_after}

-- a workbench under its lock: for how many callers seats were made, whether a full history begins again, and its identity. Nobody knows anything else of it
-- without the lock
pub record SharedView : Type 0 where
  pub callers : ℕ
  pub rolls : Bool
  pub workbench : Identity

-- no identity
abbrev pub unnamed : Identity
unnamed = record { high = 0; low = 0 }

-- a seat with the receipts of its calls
pub record SeatedView : Type 0 where
  pub seat : SeatView
  pub receipts : List ReceiptView

-- An answered call adds one receipt, which is of the call, with the reply, and which the seat has then seen. A refused one changes neither.
abbrev pub IsCallSeated : SeatedView → Call → Answer → SeatedView → Type 0
IsCallSeated old call (Replied reply) new =
    (receipt : ReceiptView) × (new.receipts ≡ old.receipts ++ receipt ∷ []) × IsReceiptOf old.seat call receipt × (receipt.entry.reply ≡ reply) × (new.seat ≡ seat_after old.seat receipt)
IsCallSeated old call FullHistory new = new ≡ old
IsCallSeated old call BehindHistory new = new ≡ old

-- the name that a desk gives a cause
abbrev pub desk_refusal : SharedRefused → DeskError
desk_refusal (cause.SeatDiffers turns book) = desk.Behind
desk_refusal (cause.Behind seen len) = desk.Behind
desk_refusal cause.HistoryFull = desk.HistoryFull
desk_refusal cause.Memory = desk.Memory

-- it is refused for this cause, or for lack of memory if there is none
abbrev pub RefusedAtDesk : Option SharedRefused → Result Answered DeskError → Type 0
RefusedAtDesk why (Ok answer) = why ≡ None
RefusedAtDesk None (Err refused) = refused ≡ desk.Memory
RefusedAtDesk (Some why) (Err refused) = refused ≡ desk_refusal why

-- a checkpoint is refused, since others may share the workbench, and changes neither
abbrev pub IsCheckpointSeated : SeatedView → Bounds → CheckpointAnswer → SeatedView → Type 0
IsCheckpointSeated old limits SharedHistory new = new ≡ old
IsCheckpointSeated old limits (Checked checking) new = ⊥

abbrev pub SeatedStep : SeatedView → Exchange → SeatedView → Type 0
SeatedStep = Exchanges IsCallSeated IsCheckpointSeated NoRead
