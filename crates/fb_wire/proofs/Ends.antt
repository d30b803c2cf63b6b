-- Which ends may come where.
use Rattle.std.proofs.Common.{◌≡◌, ◌↔◌, Bool, Err, IsTrue, Ok, Result, false, refl, true}
use Rattle.std.specs.Prelude.{⊤}
use Rattle.fb_wire.specs.{Progress.{StopsInside}, Turns.{StopsAtEnd}, declared.end.RunEnd.{RunEnd}}
use Rattle.fb_wire.specs.declared.end.RunEnd.TheVariants as end

pub inside_at_end : (stop : RunEnd) → StopsInside stop → StopsAtEnd stop
inside_at_end end.LineTooLong h = tt
inside_at_end end.WriteFailed h = tt
inside_at_end end.Memory h = tt
inside_at_end end.End h = absurd h
inside_at_end end.ReadFailed h = absurd h
inside_at_end end.TurnsOver h = absurd h

-- a call that gave an Ok left the stream as one that has not failed
pub not_failed : (stop : RunEnd) (b : Bool) (r : Result ⊤ RunEnd) → (IsTrue b ↔ (r ≡ Err stop)) → r ≡ Ok tt → b ≡ false
not_failed stop true r h is = let failed : r ≡ Err stop = h.0 refl in absurd cc
not_failed stop false r h is = refl
