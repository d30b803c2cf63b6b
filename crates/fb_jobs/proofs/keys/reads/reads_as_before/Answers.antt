-- What was read before was read for the same key.
use Rattle.std.proofs.Common.{◌≡◌, Bool, true, false, not, refl, sym, subst, ◌∙◌, IfOk, IfSome}
use Rattle.fb_jobs.specs.{declared.keys.key.Key.{Key}, Again.{AreReads}}
use Rattle.fb_jobs.proofs.Alike.{one_key}
use Rattle.fb_jobs.proofs.keys.reads.reads_as_before.Goals as goal

told : (b : Bool) → not b ≡ false → b ≡ true
told true e = refl
told false e = cc

pub returns : goal.returns
returns c =
    let key = sym c.key.ensures ∙ (one_key c.key.result c.args.key).0 (told _ (sym c.ne.ensures ∙ c.if-ne.false)) in
    subst (λ (k : Key). IfOk c.read_again.result (λ again. IfSome again (λ made. AreReads c.args.library.now k made.0.items made.1))) key c.read_again.ensures
