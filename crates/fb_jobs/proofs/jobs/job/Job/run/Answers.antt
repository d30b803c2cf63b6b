-- The value from the reads is that of the key.
use Rattle.std.proofs.Common.{sym, subst, refl, ◌∙◌}
use Rattle.fb_jobs.specs.{Finished.{IsFinished}, Kinds.{needs_all}, Reads.{PlainJob, read_texts}}
use Rattle.fb_jobs.proofs.{SameNeeds.{scratch_is}, WorkLemmas.{founds_for}}
use Rattle.fb_jobs.proofs.jobs.job.Job.run.Goals as goal

pub new-requires : goal.new-requires
new-requires c =
    let it = c.args.self.now in
    let texts = read_texts it.reads in
    let work = c.in_ok-work.ensures in
    subst (λ (i : PlainJob). IsFinished i c.in_ok-work.work) (sym (c.in_ok-inputs.ensures.cases ∙ c.self.view_is))
    (record {
      value_is = work.value_is ∙ sym (scratch_is texts it.key);
      found_are = founds_for texts it.key c.in_ok-work.work.found.items (needs_all it.key.kind) refl work.none work.found_are;
    })
