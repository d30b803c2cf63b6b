-- What the key needs of the library it needs of the reads too.
use Rattle.std.proofs.Common.{sym, ap, subst, Vec}
use Rattle.std.specs.declared.alloc.Global.{Global}
use Rattle.fb_jobs.specs.{declared.kept.hints.Hint.{Hint}, Cached.{IsCached}, Reads.{IsRight}}
use Rattle.fb_jobs.proofs.{CachedLemmas.{hints_alone}, Currents.{right_for}}
use Rattle.fb_jobs.proofs.jobs.job.Job.make.Goals as goal

pub of_reads-requires-clause-right : goal.of_reads-requires-clause-right
of_reads-requires-clause-right c =
    subst (λ reads. IsRight (record { key = c.args.key; reads = reads })) (sym c.in_ok-reads.ensures.seen) (right_for c.args.library.now c.args.key c.requires.has)

pub of_reads-requires-clause-known : goal.of_reads-requires-clause-known
of_reads-requires-clause-known c =
    subst (λ reads. IsCached reads c.args.key c.of_hints-cached.result) (sym c.in_ok-reads.ensures.seen)
    (hints_alone c.args.library.now c.args.key c.args.hints.items c.of_hints-cached.result c.requires.hints (ap (λ (v : Vec Hint Global). v.items) c.of_hints-cached.ensures.hints) c.of_hints-cached.ensures.own c.of_hints-cached.ensures.faultless)
