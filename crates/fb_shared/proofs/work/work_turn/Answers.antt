use Rattle.fb_locked.specs.Runs.{Empty, Holds}
use Rattle.fb_locked.proofs.Works.{works_after}
use Rattle.fb_shared.proofs.work.work_turn.Goals as goal

pub returns-in-Taken-clause-works : goal.returns-in-Taken-clause-works
returns-in-Taken-clause-works g c =
    let taken = rw c.in-Taken.is at c.take_job.ensures.adds in
    works_after Empty (Holds c.in-Taken.job) 1 1 c.args.seat.now c.take_job.new.seat c.finish.new.seat c.args.receipts.now.items c.take_job.new.receipts.items c.finish.new.receipts.items c.finish.result taken c.finish.ensures.works
