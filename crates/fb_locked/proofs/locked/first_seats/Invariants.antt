use Rattle.fb_locked.specs.Seats.{AreSeatsAt}
use Rattle.fb_locked.proofs.locked.first_seats.Given as goal

abbrev pub invariant-loop-index : goal.invariant-loop-index
invariant-loop-index l = AreSeatsAt l.bench l.index l.seats.items
