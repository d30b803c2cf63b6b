use Rattle.std.proofs.Common.{◌≡◌, arith}
use Rattle.fb_serve.proofs.worker.hold_unsettled.Goals as goal

pub returns-in-Some-clause-held : goal.returns-in-Some-clause-held
returns-in-Some-clause-held c last job taken room =
    let is : c.in-Some.it ≡ record { key = job.key; since = last.number } = grind (arith, c.unsettled.ensures last job, taken, c.in-Some.is, c.deref.ensures.value) in
    rw is at c.hold.ensures room
