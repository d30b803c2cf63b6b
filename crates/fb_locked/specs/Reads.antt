-- Reads with a seat.
use Rattle.std.specs.{Prelude.{◌≡◌, ◌≤◌, Option, Some, None, Result, Ok, Err}, declared.alloc.AllocError.{AllocError}}
use Rattle.fb_bench.specs.{Snapshots.{shows}, History.BenchView.{BenchView, IsOrigin, IsReplay, all_turns, last_number}, History.declared.reading.Identity.{Identity}, History.declared.reading.Reader.{Reader}, History.declared.reading.Reading.{Reading}}
use Rattle.fb_bench.specs.History.Reads.{Showing, reading_of, showing_in}
use Rattle.fb_bench.specs.History.declared.reading.Showing as made
use Rattle.fb_locked.specs.{Seats.{SeatView, LockedView}, Book.{SeatFits}, declared.read.SeatSnapshot.{SeatSnapshot}}

-- who reads with the seat, and of which workbench
abbrev pub reader_of : Identity → SeatView → Reader
reader_of workbench seat = record { session = seat.caller; workbench = workbench }

-- the seat after a read of this workbench
abbrev pub seat_read : SeatView → BenchView → SeatView
seat_read seat bench = record seat { seen = last_number bench }

-- A workbench that begins as one may and whose answers are all the machine's. All that was called with the seat, and all that it has seen, came before.
abbrev pub IsKnownTo : SeatView → BenchView → Type 0
IsKnownTo seat bench = IsOrigin bench.origin × IsReplay bench × (all_turns bench seat.caller ≡ seat.turns) × (seat.seen ≤ last_number bench)

-- what is shown is so in such a workbench, of which the seat has then seen the last call
abbrev pub IsReadAt : Identity → SeatView → Reading → Showing → SeatView → Type 0
IsReadAt workbench seat reading shown seat' =
    (bench : BenchView) × IsKnownTo seat bench × (shown ≡ reading_of (reader_of workbench seat) bench reading) × (seat' ≡ seat_read seat bench)

-- the read shows what it is asked for, or nothing changes
abbrev pub ReadsAt : Identity → SeatView → Reading → Result (Option made.Showing) AllocError → SeatView → Type 0
ReadsAt workbench seat reading (Ok (Some shown)) seat' = IsReadAt workbench seat reading (showing_in shown) seat'
ReadsAt workbench seat reading (Ok None) seat' = seat' ≡ seat
ReadsAt workbench seat reading (Err e) seat' = seat' ≡ seat

-- The read shows the workbench under the lock, if the seat fits it.
abbrev pub Reads : LockedView → Identity → SeatView → Reading → Result (Option made.Showing) AllocError → SeatView → Type 0
Reads locked workbench seat reading (Ok (Some shown)) seat' =
    SeatFits locked seat × (showing_in shown ≡ reading_of (reader_of workbench seat) locked.bench reading) × (seat' ≡ seat_read seat locked.bench)
Reads locked workbench seat reading (Ok None) seat' = (SeatFits locked seat → ⊥) × (seat' ≡ seat)
Reads locked workbench seat reading (Err e) seat' = SeatFits locked seat × (seat' ≡ seat)

-- ---- in two steps: what is shared under the lock, and what it shows

-- the snapshot is of this workbench
abbrev pub IsSnapshotOf : Identity → SeatView → Reading → BenchView → SeatSnapshot → Type 0
IsSnapshotOf workbench seat reading bench it = (shows it.snapshot ≡ reading_of (reader_of workbench seat) bench reading) × (it.last_number ≡ last_number bench)

-- it is of the workbench under the lock, if the seat fits it
abbrev pub Snapshots : LockedView → Identity → SeatView → Reading → Result (Option SeatSnapshot) AllocError → Type 0
Snapshots locked workbench seat reading (Ok (Some it)) = SeatFits locked seat × IsSnapshotOf workbench seat reading locked.bench it
Snapshots locked workbench seat reading (Ok None) = SeatFits locked seat → ⊥
Snapshots locked workbench seat reading (Err e) = SeatFits locked seat

-- it is of a workbench that the seat knows
abbrev pub SnapshotsAt : Identity → SeatView → Reading → Result (Option SeatSnapshot) AllocError → Type 0
SnapshotsAt workbench seat reading (Ok (Some it)) = (bench : BenchView) × IsKnownTo seat bench × IsSnapshotOf workbench seat reading bench it
SnapshotsAt workbench seat reading (Ok None) = Unit {0}
SnapshotsAt workbench seat reading (Err e) = Unit {0}

-- the snapshot is shown, and the seat has then seen the last call; or nothing changes
abbrev pub IsShown : SeatSnapshot → SeatView → Result made.Showing AllocError → SeatView → Type 0
IsShown it seat (Ok shown) seat' = (showing_in shown ≡ shows it.snapshot) × (seat' ≡ record seat { seen = it.last_number })
IsShown it seat (Err e) seat' = seat' ≡ seat
