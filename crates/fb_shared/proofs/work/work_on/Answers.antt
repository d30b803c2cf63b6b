use Rattle.std.proofs.Common.{arith, inl, inr, refl, ◌*◌, ◌+◌}
use Rattle.fb_locked.specs.Runs.{Empty}
use Rattle.fb_locked.proofs.Works.{adds_none, adds_turn, adds_whole_turn, adds_fewer}
use Rattle.fb_shared.proofs.Holds.{began_or_none, began_with}
use Rattle.fb_shared.proofs.work.work_on.Goals as goal

pub looks-init : goal.looks-init
looks-init g c = (adds_none Empty _ c.args.seat.now c.args.receipts.now.items, inl (refl, refl))

pub looks-preserved : goal.looks-preserved
looks-preserved g c =
    let turn = rw c.in_default.is at c.work_turn.ensures.works in
    let may = rw c.in_default.is at c.work_turn.ensures.looked in (
      adds_whole_turn c.looks.counter c.args.seat.now c.looks.seat c.work_turn.new.seat c.args.receipts.now.items c.looks.receipts.items c.work_turn.new.receipts.items c.looks.invariant.0 turn,
      inr (began_with c.looks.counter c.args.seat.now c.looks.seat c.looks.invariant.1 may),
    )

pub returns-clause-works : goal.returns-clause-works
returns-clause-works g c =
    (Empty, adds_fewer Empty (2 * c.looks.counter) (2 * c.args.turns) c.args.seat.now c.looks.seat c.args.receipts.now.items c.looks.receipts.items Empty (omega (arith, c.looks.auto.counter-end)) c.looks.invariant.0, tt)

pub returns-in-Some-clause-works : goal.returns-in-Some-clause-works
returns-in-Some-clause-works g c =
    let turn = rw c.in-Some.is at c.work_turn.ensures.works in
    let all = adds_turn c.looks.counter turn.0 c.args.seat.now c.looks.seat c.work_turn.new.seat c.args.receipts.now.items c.looks.receipts.items c.work_turn.new.receipts.items c.looks.invariant.0 turn.1 in
    (turn.0, adds_fewer Empty (2 * (c.looks.counter + 1)) (2 * c.args.turns) c.args.seat.now c.work_turn.new.seat c.args.receipts.now.items c.work_turn.new.receipts.items turn.0 (omega (arith, c.looks-test.true)) all, turn.2)

pub returns-clause-over : goal.returns-clause-over
returns-clause-over g c = λ is. began_or_none c.looks.counter c.args.turns c.args.seat.now c.looks.seat (omega (arith, c.looks.auto.counter-end)) c.looks.invariant.1

pub returns-in-Some-clause-over : goal.returns-in-Some-clause-over
returns-in-Some-clause-over g c =
    let may = rw c.in-Some.is at c.work_turn.ensures.looked in
    λ is. inr (began_with c.looks.counter c.args.seat.now c.looks.seat c.looks.invariant.1 (may is))
