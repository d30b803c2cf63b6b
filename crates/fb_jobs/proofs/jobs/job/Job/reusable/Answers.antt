-- What is read leaves the value unchanged, so it is that of the reads.
use Rattle.std.proofs.Common.{◌≡◌, Bool, true, false, not, List, refl, sym, ap, subst, ◌∙◌, IfSome}
use Rattle.fb_jobs.specs.{declared.keys.key.Key.{Key}, Keys.{scratch}, Cached.{IsCached, is_flagged}, Reuse.{AreStillRead, is_whole_value}}
use Rattle.fb_jobs.specs.{Reads.{IsRight, PlainJob, Seen, read_texts}, Values.{all_seen}}
use Rattle.fb_jobs.proofs.{Alike.{one_key}, ReuseLemmas.{reusable_value}}
use Rattle.fb_jobs.proofs.jobs.job.Job.reusable.Goals as goal

told : (b : Bool) → not b ≡ false → b ≡ true
told true e = refl
told false e = cc

pub returns-then-branch : goal.returns-then-branch
returns-then-branch c =
    let it = c.args.self.now in
    let made = c.in-Some-inputs.before.now in
    let same : made ≡ c.in-Some.derivation = subst (λ o. IfSome o (λ i. i.now ≡ c.in-Some.derivation)) c.in-Some-inputs.is c.inputs.ensures in
    let flags = c.self.inside.cached.faultless.items in
    let known = subst (λ (i : PlainJob). IsCached i.reads i.key c.self.inside.cached) c.self.view_is c.self.invariant in
    let key : made.key ≡ it.key = sym c.key.ensures ∙ (one_key c.key.result c.key-key.result).0 (told _ (sym c.ne.ensures ∙ c.if-ne.false)) ∙ c.key-key.ensures in
    let whole : is_whole_value c.value-value.result.now.value ≡ true = ap is_whole_value (sym c.deref.ensures) ∙ sym c.is_whole_value.ensures ∙ c.if-not-is_whole_value.false in
    let still = subst (λ (k : Key). AreStillRead k.unit (is_flagged it.reads flags) made.reads it.reads) c.key-key.ensures
    (subst (λ (before : List Seen). AreStillRead c.key-key.result.unit (is_flagged it.reads flags) before it.reads) c.reads.ensures.same
    (subst (λ (bs : List Bool). AreStillRead c.key-key.result.unit (is_flagged it.reads bs) (all_seen c.reads.result.now) it.reads) c.deref-2.ensures.value
    (subst (λ (now : List Seen). AreStillRead c.key-key.result.unit (is_flagged now c.deref-2.result.now) (all_seen c.reads.result.now) now) c.reads-2.ensures.same
    (c.in_ok-are_still_read.ensures c.if-branch.true)))) in
    reusable_value it.key made.reads it.reads c.value-value.result.now.value (is_flagged it.reads flags)
    (record {
      right = subst (λ (k : Key). IsRight (record { key = k; reads = made.reads })) key c.reads.ensures.right;
      value_is = c.value-value.ensures ∙ ap (λ (it : PlainJob). scratch (read_texts it.reads) it.key) (sym same) ∙ ap (scratch (read_texts made.reads)) key;
    })
    c.reads-2.ensures.right whole known.faultless_are still
