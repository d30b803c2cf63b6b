-- The desk of a session of a server that stays.
use Rattle.std.specs.Prelude.{◌≡◌, ◌≤◌, List, [], ◌∷◌, Option, Some, None}
use Rattle.fb_locked.specs.{History.Machine.{Call}, Bench.Calls.{Answer, Replied, FullHistory, BehindHistory, Checked, CheckpointAnswer, SharedHistory, Exchange, Exchanges}, Reads.{IsReadAt}}
use Rattle.fb_locked.specs.Seats.{SeatView, ReceiptView, IsReceiptOf, seat_after}
use Rattle.fb_locked.specs.History.{Limits.{Bounds}, Reads.{Showing}, declared.reading.Identity.{Identity}, declared.reading.Reading.{Reading}}
use Rattle.fb_shared.specs.Seated.{SeatedView, IsCallSeated}

-- the desk of a session: a seat with the receipts of its calls, and the identity of the workbench
pub record SessionView : Type 0 where
  pub seated : SeatedView
  pub workbench : Identity

abbrev pub session_of : Identity → SeatView → List ReceiptView → SessionView
session_of workbench seat receipts = record { seated = record { seat = seat; receipts = receipts }; workbench = workbench }

-- a call as a desk with a seat makes it; it never answers here that the history is full
abbrev pub IsHostCall : SessionView → Call → Answer → SessionView → Type 0
IsHostCall old call (Replied reply) new = IsCallSeated old.seated call (Replied reply) new.seated × (new.workbench ≡ old.workbench)
IsHostCall old call FullHistory new = ⊥
IsHostCall old call BehindHistory new = new ≡ old

-- a checkpoint is refused, and changes nothing
abbrev pub IsHostCheckpoint : SessionView → Bounds → CheckpointAnswer → SessionView → Type 0
IsHostCheckpoint old limits SharedHistory new = new ≡ old
IsHostCheckpoint old limits (Checked checking) new = ⊥

-- what a read shows is so at a moment after all that the seat has done and seen, and it adds no receipt. A desk that answers `Behind` reads nothing
abbrev pub IsHostRead : SessionView → Reading → Option Showing → SessionView → Type 0
IsHostRead old reading (Some shown) new =
    IsReadAt old.workbench old.seated.seat reading shown new.seated.seat × (new.seated.receipts ≡ old.seated.receipts) × (new.workbench ≡ old.workbench)
IsHostRead old reading None new = new ≡ old

abbrev pub HostStep : SessionView → Exchange → SessionView → Type 0
HostStep = Exchanges IsHostCall IsHostCheckpoint IsHostRead

-- the seat has perhaps seen more, and made no call
abbrev pub SeesOn : SeatView → SeatView → Type 0
SeesOn seat after = (after.caller ≡ seat.caller) × (after.turns ≡ seat.turns) × (seat.seen ≤ after.seen)

-- the receipts are of calls with the seat, one after another, with reads before, between and after them
abbrev pub IsHostRun : SeatView → List ReceiptView → SeatView → Type 0
IsHostRun seat [] after = SeesOn seat after
IsHostRun seat (receipt ∷ receipts) after =
    (mid : SeatView) × SeesOn seat mid × IsReceiptOf mid receipt.entry.call receipt × IsHostRun (seat_after mid receipt) receipts after

-- calls with the seat and reads, one after another, lead from the first to the second
abbrev pub LeadsTo : SeatView → SeatView → Type 0
LeadsTo seat after = (receipts : List ReceiptView) × IsHostRun seat receipts after
