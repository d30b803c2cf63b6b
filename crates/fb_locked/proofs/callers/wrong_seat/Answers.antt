use Rattle.std.proofs.{Common.{◌≡◌, ap, ◌∙◌, arith, length, take, List, ℕ, subst}, Math.Seq.{take-length}}
use Rattle.fb_locked.specs.{Seats.{SeatView}, Closing.{IsLeast, has_wrong_seat}}
use Rattle.fb_locked.proofs.Closings.{least_more, wrong_more}
use Rattle.fb_locked.proofs.callers.wrong_seat.Goals as goal

pub loop-seat-preserved : goal.loop-seat-preserved
loop-seat-preserved c =
    let s = c.seat-item.result in
    rw (c.lesser-least.ensures, c.caller-in-loop-seat.ensures, c.turns.ensures, c.turns_of.ensures, c.caller.ensures) (
    least_more _ _ c.loop-seat.least s.caller _ c.loop-seat.invariant (
    λ q. wrong_more c.args.bench.now c.args.seats.now c.loop-seat.seat-index s q c.loop-seat-test.true c.seat-item.is
    )
    )

pub returns : goal.returns
returns c =
    let end : c.loop-seat.seat-index ≡ length c.args.seats.now = omega arith in
    let all : take c.loop-seat.seat-index c.args.seats.now ≡ c.args.seats.now = ap (λ (n : ℕ). take n c.args.seats.now) end ∙ take-length c.args.seats.now in
    subst (λ (l : List SeatView). IsLeast (has_wrong_seat c.args.bench.now l) c.loop-seat.least) all c.loop-seat.invariant
