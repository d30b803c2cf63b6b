-- How a worker ends.
use Rattle.std.specs.{Prelude.{◌≡◌, ◌≢◌, ◌<◌, ◌||◌, ◌⊎◌, List, Bool, true, false, length, nat_le, is_some, Option, Some, None, if◌then◌else◌}, Option.{option_map}}
use Rattle.fb_bench.specs.{Jobs.Reads.{PlainJob}, History.Machine.{ToTake, ToDeliver, ToGiveBack, next, reply}, Requests.{job_of}, History.BenchView.{state_of}}
use Rattle.fb_locked.specs.{declared.locked.SharedRefused.{SharedRefused}, declared.look.WorkEnd.{WorkEnd}}
use Rattle.fb_locked.specs.{declared.look.WorkEnd.TheVariants.{TurnsOver, Stopped, SeatDiffers, Behind, HistoryFull, Memory}, declared.look.Look.{Look}}
use Rattle.fb_locked.specs.{declared.look.Look.TheVariants.{Ended, Nothing, Taken}, Seats.{LockedView, SeatView, ReceiptView}, Refusals.{refusal_of}}
use Rattle.fb_locked.specs.Calls.{Keeps, Stays}
use Rattle.fb_locked.specs.declared.locked.SharedRefused.TheVariants as refused

-- the end of a worker whose call was refused for this cause
abbrev pub end_of : SharedRefused → WorkEnd
end_of (refused.SeatDiffers turns book) = SeatDiffers turns book
end_of (refused.Behind seen len) = Behind seen len
end_of refused.HistoryFull = HistoryFull
end_of refused.Memory = Memory

-- what ends a worker before a take, whether or not a key is pending: the stop mark, or else the first cause against a call
abbrev pub end_before_take : LockedView → SeatView → Option WorkEnd
end_before_take locked seat = if locked.stopped then Some Stopped else option_map end_of (refusal_of locked seat)

-- an end that names the seat
abbrev pub NamesSeat : SeatView → WorkEnd → Type 0
NamesSeat seat (SeatDiffers turns book) = (turns ≡ seat.turns) × (book ≢ turns)
NamesSeat seat (Behind seen len) = (seen ≡ seat.seen) × (len < seen)
NamesSeat seat TurnsOver = Unit {0}
NamesSeat seat Stopped = Unit {0}
NamesSeat seat HistoryFull = Unit {0}
NamesSeat seat Memory = Unit {0}

-- a look that ends a worker
abbrev pub LookNames : SeatView → Look → Type 0
LookNames seat (Ended end) = NamesSeat seat end
LookNames seat Nothing = Unit {0}
LookNames seat (Taken job) = Unit {0}

-- the cause if there is one, and otherwise lack of memory
abbrev pub EndsAs : Option WorkEnd → WorkEnd → Type 0
EndsAs None end = end ≡ Memory
EndsAs (Some cause) end = end ≡ cause

-- A look for a job, under the lock. What ends the worker is asked first, whether or not there is a job. Lack of memory ends it only if there is one. A
-- look that takes one is a take whose receipt is kept, and one that takes none changes nothing.
abbrev pub Looks : LockedView → SeatView → Look → List ReceiptView → LockedView → SeatView → List ReceiptView → Type 0
Looks locked seat (Ended end) old locked' seat' new =
    EndsAs (end_before_take locked seat) end × (end_before_take locked seat ≡ None → is_some (next (state_of locked.bench)) ≡ true) × Stays locked seat old locked' seat' new
Looks locked seat Nothing old locked' seat' new = (end_before_take locked seat ≡ None) × (next (state_of locked.bench) ≡ None) × Stays locked seat old locked' seat' new
Looks locked seat (Taken job) old locked' seat' new =
    (end_before_take locked seat ≡ None) × (job_of (reply (state_of locked.bench) ToTake) ≡ Some job) × Keeps locked seat ToTake old locked' seat' new

-- a worker that waits has to look again: it would end, or there is something to take
abbrev pub calls_workers : LockedView → Bool
calls_workers locked = locked.stopped || (is_some (next (state_of locked.bench)) || nat_le locked.bench.log.limit (length locked.bench.log.records))

-- a worker waits only after a look that leaves nothing for which it would be called
abbrev pub WaitsRightly : Look → LockedView → Type 0
WaitsRightly Nothing locked = calls_workers locked ≡ false
WaitsRightly (Ended end) locked = Unit {0}
WaitsRightly (Taken job) locked = Unit {0}

-- If memory ran out, the key of the job is given back, or nothing changes if this is refused too. At another end nothing changes.
abbrev pub GivesUp : WorkEnd → LockedView → SeatView → PlainJob → List ReceiptView → LockedView → SeatView → List ReceiptView → Type 0
GivesUp Memory locked seat job old locked' seat' new = Keeps locked seat (ToGiveBack job.key) old locked' seat' new ⊎ Stays locked seat old locked' seat' new
GivesUp end locked seat job old locked' seat' new = Stays locked seat old locked' seat' new

-- What a worker does with a job that it holds, under the lock. Its result, if it has one, is delivered, and then the worker continues, whether or not
-- it was accepted. If the delivery is refused, the worker ends with the first cause; if memory ran out, for the result or for its
-- delivery, it ends with lack of memory.
abbrev pub SettlesJob : LockedView → SeatView → PlainJob → Bool → Option WorkEnd → List ReceiptView → LockedView → SeatView → List ReceiptView → Type 0
SettlesJob locked seat job has_result None old locked' seat' new = (has_result ≡ true) × Keeps locked seat (ToDeliver job) old locked' seat' new
SettlesJob locked seat job has_result (Some end) old locked' seat' new =
    EndsAs (if has_result then option_map end_of (refusal_of locked seat) else None) end × GivesUp end locked seat job old locked' seat' new
