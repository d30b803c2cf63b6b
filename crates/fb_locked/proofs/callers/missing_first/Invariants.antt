use Rattle.std.proofs.Common.{◌&&◌, not}
use Rattle.fb_locked.specs.{Book.{is_first}, Closing.{has_seat, IsLeast}}
use Rattle.fb_locked.proofs.callers.missing_first.Given as goal

abbrev pub invariant-loop-index : goal.invariant-loop-index
invariant-loop-index l = IsLeast (λ q. is_first l.index q && not (has_seat l.seats q)) l.least
