use Rattle.fb_locked.proofs.Works.{gives_up}
use Rattle.fb_locked.proofs.locked.Locked.give_up.Goals as goal

pub returns-clause-works : goal.returns-clause-works
returns-clause-works c =
    gives_up c.args.job.now c.args.seat.now c.perform_into-answer.new.seat c.args.receipts.now.items c.perform_into-answer.new.receipts.items c.perform_into-answer.result (rw c.key.ensures at c.perform_into-answer.ensures.answers)
