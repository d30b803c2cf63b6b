-- What is known of the workbench under the lock at the moment of a call.
use Rattle.std.specs.Prelude.{◌≡◌, ◌≢◌, None, Option, Some}
use Rattle.fb_locked.specs.{History.BenchView.{IsOrigin, IsReplay}, Seats.{LockedView, SeatView}, Ends.{end_before_take}}
use Rattle.fb_locked.specs.{Book.{SeatFits}, declared.look.Look.{Look}, declared.look.WorkEnd.{WorkEnd}}
use Rattle.fb_locked.specs.declared.look.Look.TheVariants.{Ended, Nothing, Taken}
use Rattle.fb_locked.specs.declared.look.WorkEnd.TheVariants.{TurnsOver}

-- it begins as a workbench may, and each of its answers is the machine's
abbrev pub IsReplayed : LockedView → Type 0
IsReplayed locked = IsOrigin locked.bench.origin × IsReplay locked.bench

-- this holds of some such workbench, the one that was under the lock then
abbrev pub UnderLock : (LockedView → Type 0) → Type 0
UnderLock Holds = (locked : LockedView) × IsReplayed locked × Holds locked

-- the history was not one that the seat has seen
abbrev pub IsBehind : SeatView → Type 0
IsBehind seat = UnderLock (λ locked. SeatFits locked seat → ⊥)

-- ---- looks of a worker

-- nothing ends a worker with this seat before it takes
abbrev pub MayLook : SeatView → Type 0
MayLook seat = UnderLock (λ locked. end_before_take locked seat ≡ None)

-- a look that ends no worker is of a seat that may look, and no look ends one because its turns are over
abbrev pub IsLookOf : SeatView → Look → Type 0
IsLookOf seat (Ended end) = end ≢ TurnsOver
IsLookOf seat Nothing = MayLook seat
IsLookOf seat (Taken job) = MayLook seat

-- a worker that continues, or whose turns are over, had a seat that may look
abbrev pub HasLooked : SeatView → Option WorkEnd → Type 0
HasLooked seat None = MayLook seat
HasLooked seat (Some end) = end ≡ TurnsOver → MayLook seat
