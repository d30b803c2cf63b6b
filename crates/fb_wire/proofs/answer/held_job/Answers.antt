use Rattle.std.proofs.{Common.{◌-◌, ◌∙◌, arith, refl, sym}, lemmas.Option.{slice_get_read}}
use Rattle.fb_wire.proofs.HeldJobs.{job_at-by}
use Rattle.fb_wire.proofs.answer.held_job.Goals as goal

pub returns-else-number-held : goal.returns-else-number-held
returns-else-number-held c =
    let found = slice_get_read c.args.held.now _ (c.args.number - 1) c.index-held-number.result refl (omega arith) c.index-held-number.is in
    sym (job_at-by c.args.held.now c.args.number (omega arith) ∙ found)
