-- They are what the reads give.
use Rattle.std.proofs.Common.{sym, subst, All}
use Rattle.fb_jobs.specs.{Reads.{PlainJob, read_texts}, Work.{IsFoundFor}}
use Rattle.fb_jobs.proofs.jobs.result.Finished.found.Goals as goal

pub returns : goal.returns
returns c =
    let read = c.self.inside.inputs.value in
    subst (λ (it : PlainJob). All (IsFoundFor (read_texts it.reads) it.key) c.deref.result.now) c.self.view_is
    (subst (All (IsFoundFor (read_texts read.reads) read.key)) (sym c.deref.ensures.value) c.self.invariant.found_are)
