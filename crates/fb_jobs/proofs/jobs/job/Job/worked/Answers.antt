-- The value that is left is that of the reads, and nothing is found on the way.
use Rattle.std.proofs.{Common.{◌≡◌, List, IfSome, Option, Bor, All, sym, ap, subst, ◌∙◌}, lemmas.List.Elements.{All-nil}}
use Rattle.std.specs.{declared.alloc.Global.{Global}, declared.sync.Arc.{Arc}}
use Rattle.fb_deploy.specs.Library.Texts.{sources_of}
use Rattle.fb_jobs.specs.{declared.kept.hints.Hint.{Hint}, declared.values.value.Value.{Value}, Keys.{scratch}, Reads.{read_texts}, Values.{finding_of}, Work.{IsFoundIn}}
use Rattle.fb_jobs.proofs.SameNeeds.{scratch_is}
use Rattle.fb_jobs.proofs.jobs.job.Job.worked.Goals as goal

pub returns-in_ok-clone-in-Some : goal.returns-in_ok-clone-in-Some
returns-in_ok-clone-in-Some c =
    let texts = read_texts c.args.self.now.reads in
    let key = c.args.self.now.key in
    let left = subst (λ (o : Option (Bor (Arc Value Global))). IfSome o (λ value. finding_of value.now.value ≡ scratch texts key)) c.in-Some.is c.in_ok-value.ensures in
    record {
      value_is = ap finding_of c.in_ok-clone-in-Some.ensures.cases ∙ left ∙ scratch_is texts key;
      none = λ e. c.new.ensures.items;
      found_are = subst (λ (found : List Hint). All (IsFoundIn (sources_of texts) key.unit) found) (sym c.new.ensures.items) (All-nil (IsFoundIn (sources_of texts) key.unit));
    }
