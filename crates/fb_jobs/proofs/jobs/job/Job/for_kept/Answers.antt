-- What the key needs of the library it needs of the reads too.
use Rattle.std.proofs.Common.{sym, subst}
use Rattle.fb_jobs.specs.Reads.{IsRight}
use Rattle.fb_jobs.proofs.Currents.{right_for}
use Rattle.fb_jobs.proofs.jobs.job.Job.for_kept.Goals as goal

pub of_reads-requires-clause-right : goal.of_reads-requires-clause-right
of_reads-requires-clause-right g c =
    subst (λ reads. IsRight (record { key = c.args.key; reads = reads })) (sym c.in_ok-reads.ensures.seen) (right_for c.args.library.now c.args.key c.requires.has)
