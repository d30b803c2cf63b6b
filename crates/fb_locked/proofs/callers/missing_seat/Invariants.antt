use Rattle.std.proofs.Common.{map}
use Rattle.std.specs.Map.Iter.{deref}
use Rattle.fb_locked.specs.Closing.{IsLeast}
use Rattle.fb_locked.proofs.EachCaller.{is_unseated}
use Rattle.fb_locked.proofs.callers.missing_seat.Given as goal

abbrev pub invariant-loop-caller : goal.invariant-loop-caller
invariant-loop-caller l = IsLeast (is_unseated l.callers (map deref l.yielded) l.bench l.seats) l.least
