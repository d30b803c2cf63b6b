use Rattle.fb_locked.proofs.Closings.{receipt_fault}
use Rattle.fb_locked.proofs.close.check.Goals as goal

pub returns-in-Err : goal.returns-in-Err
returns-in-Err c =
    receipt_fault c.args.callers c.args.bench.now c.args.seats.now c.args.receipts.now c.in-Err.fault c.in_default.ensures c.in_default-wrong_seat.ensures c.in-Err.ensures
