-- Why a call with a seat is refused.
use Rattle.std.specs.Prelude.{◌≡◌, ◌≢◌, ◌==◌, ◌<◌, Option, Some, None, length, nat_lt, nat_le, if◌then◌else◌}
use Rattle.fb_locked.specs.{declared.locked.SharedRefused.{SharedRefused}, declared.locked.SharedRefused.TheVariants.{SeatDiffers, Behind, HistoryFull, Memory}}
use Rattle.fb_locked.specs.Seats.{LockedView, SeatView}
use Rattle.fb_bench.specs.History.BenchView.{all_turns, last_number}

-- the first cause, apart from lack of memory
abbrev pub refusal_of : LockedView → SeatView → Option SharedRefused
refusal_of locked seat =
    if all_turns locked.bench seat.caller == seat.turns then (
    if nat_lt (last_number locked.bench) seat.seen then Some (Behind seat.seen (last_number locked.bench))
    else if nat_le locked.bench.log.limit (length locked.bench.log.records) then Some HistoryFull else None
    ) else Some (SeatDiffers seat.turns (all_turns locked.bench seat.caller))

-- the cause if there is one, and otherwise lack of memory
abbrev pub RefusedAs : Option SharedRefused → SharedRefused → Type 0
RefusedAs None refused = refused ≡ Memory
RefusedAs (Some cause) refused = refused ≡ cause

-- what a refusal states about the seat
abbrev pub IsRefusalOf : SeatView → SharedRefused → Type 0
IsRefusalOf seat (SeatDiffers turns book) = (turns ≡ seat.turns) × (book ≢ turns)
IsRefusalOf seat (Behind seen len) = (seen ≡ seat.seen) × (len < seen)
IsRefusalOf seat HistoryFull = Unit {0}
IsRefusalOf seat Memory = Unit {0}
