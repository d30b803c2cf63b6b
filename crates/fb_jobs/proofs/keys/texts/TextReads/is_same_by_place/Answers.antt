use Rattle.std.proofs.Common.{arith, refl}
use Rattle.fb_jobs.proofs.ReplacedLemmas.{same_by_place}
use Rattle.fb_jobs.proofs.keys.texts.TextReads.is_same_by_place.Goals as goal

pub returns : goal.returns
returns c = (
  (λ _. same_by_place c.args.self.now c.args.other.now (omega (arith, c.len.ensures, c.len-2.ensures, c.if-len.false))
      (λ k below. c.loop-place.invariant k (omega (arith, below, c.len-place-end.ensures, c.loop-place-test.false)))),
  (λ _. refl),
)
