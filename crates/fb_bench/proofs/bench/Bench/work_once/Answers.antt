-- A job that was just taken has read what is there, and its key waits.
use Rattle.std.proofs.Common.{◌≡◌, Some, refl, sym, ap, ◌∙◌, arith}
use Rattle.fb_history.specs.{declared.answers.Delivered.TheVariants.{Accepted}, Machine.{ToTake, OfTake}, BenchView.{reply_at, state_of}}
use Rattle.fb_bench.specs.Records.{job_in}
use Rattle.fb_bench.proofs.Marks.{taken_accepted}
use Rattle.fb_history.proofs.Steps.{delivers_is}
use Rattle.fb_bench.proofs.bench.Bench.work_once.Goals as goal

pub take_in-requires-clause-accepted : goal.take_in-requires-clause-accepted
take_in-requires-clause-accepted c =
    let job = c.in_ok-finished.finished in
    let handed : OfTake (Some job) ≡ reply_at c.args.self.now ToTake = ap (λ it. OfTake (Some it)) c.in_ok-finished.ensures ∙ (ap (λ taken. OfTake (job_in taken)) (sym c.in-Job.is) ∙ c.in_ok-job.ensures.answer) in
    taken_accepted c.args.self.now c.self.inside.history c.take.new.self c.args.caller job c.self.view_is c.in_ok-job.ensures.step c.self.invariant.agrees handed

pub returns-clause-round : goal.returns-clause-round
returns-clause-round c =
    let job = c.in_ok-finished.finished in
    let handed : OfTake (Some job) ≡ reply_at c.args.self.now ToTake = ap (λ it. OfTake (Some it)) c.in_ok-finished.ensures ∙ (ap (λ taken. OfTake (job_in taken)) (sym c.in-Job.is) ∙ c.in_ok-job.ensures.answer) in
    let accepted = taken_accepted c.args.self.now c.self.inside.history c.take.new.self c.args.caller job c.self.view_is c.in_ok-job.ensures.step c.self.invariant.agrees handed in (
      c.take.new.self,
      job,
      (grind (arith, c.take.ensures.full, c.in_ok-job.was), handed, c.in_ok-job.ensures.step),
      (grind (arith, c.is_full.ensures.full, c.if-is_full.false, c.self.view_is), delivers_is (state_of c.take.new.self) job job Accepted refl accepted, c.in_ok-take_in.ensures.step),
    )
