use Rattle.std.proofs.Common.{take}
use Rattle.fb_locked.specs.Closing.{IsLeast, has_wrong_seat}
use Rattle.fb_locked.proofs.callers.wrong_seat.Given as goal

abbrev pub invariant-loop-seat : goal.invariant-loop-seat
invariant-loop-seat l = IsLeast (has_wrong_seat l.bench (take l.seat-index l.seats)) l.least
