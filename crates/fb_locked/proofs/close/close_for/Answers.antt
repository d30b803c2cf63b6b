use Rattle.std.proofs.Common.{subst, List}
use Rattle.fb_locked.specs.{Seats.{SeatView}, Closing.{IsFirstFault}}
use Rattle.fb_locked.proofs.close.close_for.Goals as goal

pub returns-in-Err-clause-fault : goal.returns-in-Err-clause-fault
returns-in-Err-clause-fault c =
    rw (← c.locked.view_is) (
    subst (λ (l : List SeatView). IsFirstFault c.args.callers c.locked.inside.bench l c.args.receipts.now c.in-Err.fault) c.deref.ensures.value c.in-Err.ensures
    )
