-- What is read under the same name is there in both, or in none.
use Rattle.std.proofs.{Common.{ℕ, List, Option, Some, None, sym, subst, ◌∙◌}, lemmas.Result.{IfOk-weaker}}
use Rattle.std.specs.{declared.alloc.Global.{Global}, declared.sync.Arc.{Arc}}
use Rattle.fb_deploy.specs.Parse.Source.{Written}
use Rattle.fb_jobs.specs.{Reuse.{IsStillFound, IsStillText}, Values.{found_in}}
use Rattle.fb_jobs.proofs.SameNeeds.{same_at}
use Rattle.fb_jobs.proofs.kept.reuse.is_still_read.Goals as goal

pub returns-in-None-None : goal.returns-in-None-None
returns-in-None-None c told faultless known =
    let before = c.args.before.now in
    let now = c.args.now.now in
    let still = IsStillFound c.args.unit.now faultless now.name in
    record {
      name = sym c.name.ensures ∙ same_at c.name.result c.name-name.result (sym c.same_name.ensures ∙ c.if-not-same_name.false) ∙ c.name-name.ensures;
      found = subst (λ (s : Option (Arc Written Global)). still (found_in before.revision s) (found_in now.revision now.source)) (sym c.in-None-None.is-0)
          (subst (λ (s : Option (Arc Written Global)). still None (found_in now.revision s)) (sym c.in-None-None.is-1) tt);
    }

pub returns-in-Some-Some : goal.returns-in-Some-Some
returns-in-Some-Some c =
    let before = c.args.before.now in
    let now = c.args.now.now in
    let source = c.in-Some-Some.source in
    let other = c.in-Some-Some.other in
    IfOk-weaker c.is_still_text.result _ _
    (λ is text told faultless known.
    let same = subst (λ (w : Written). IsStillText c.args.unit.now now.name w.text other.value.text) c.deref.ensures
    (subst (λ (w : Written). IsStillText c.args.unit.now now.name c.deref.result.now.text w.text) c.deref-in-Some-Some.ensures
    (subst (λ (name : List ℕ). IsStillText c.args.unit.now name c.deref.result.now.text c.deref-in-Some-Some.result.now.text) c.name-name.ensures (text told))) in
    let still = IsStillFound c.args.unit.now faultless now.name in
    record {
      name = sym c.name.ensures ∙ same_at c.name.result c.name-name.result (sym c.same_name.ensures ∙ c.if-not-same_name.false) ∙ c.name-name.ensures;
      found = subst (λ (s : Option (Arc Written Global)). still (found_in before.revision s) (found_in now.revision now.source)) (sym c.in-Some-Some.is-0)
          (subst (λ (s : Option (Arc Written Global)). still (found_in before.revision (Some source)) (found_in now.revision s)) (sym c.in-Some-Some.is-1) (same, known c.if-is_faultless.true));
    })
    c.is_still_text.ensures
