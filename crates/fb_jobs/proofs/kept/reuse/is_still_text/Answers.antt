-- The text of another unit says the same.
use Rattle.std.proofs.{Common.{◌≡◌, List, ℕ, inr, true≢false, sym, ap, ◌∙◌}, lemmas.Result.{IfOk-weaker}}
use Rattle.std.specs.BTreeMap.{is_at}
use Rattle.fb_text.specs.Order.{name_cmp}
use Rattle.fb_jobs.proofs.SameNeeds.{at_itself}
use Rattle.fb_jobs.proofs.kept.reuse.is_still_text.Goals as goal

pub returns : goal.returns
returns c =
    let other = λ (e : c.args.name.now ≡ c.args.unit.now). true≢false (sym (at_itself c.args.unit.now) ∙ ap (λ (n : List ℕ). is_at (name_cmp n) c.args.unit.now) (sym e) ∙ sym c.same_name.ensures ∙ c.if-same_name.false) in
    IfOk-weaker c.has_same_interface.result _ _ (λ is alike told. inr (other, alike told)) c.has_same_interface.ensures
