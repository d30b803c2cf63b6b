use Rattle.std.proofs.Common.{◌∙◌, arith, sym}
use Rattle.fb_bench.proofs.Behind.{behind_from, drop_behind, none_up_to}
use Rattle.fb_bench.proofs.snapshot.first_behind_name.Goals as goal

pub loop-low-preserved-then-is_behind : goal.loop-low-preserved-then-is_behind
loop-low-preserved-then-is_behind c = record {
  ordered = omega arith;
  within = omega (arith, c.loop-low.invariant.within);
  below = c.loop-low.invariant.below;
  above = behind_from _ _ _ c.is_behind.ensures.sorted (sym c.is_behind.ensures.behind ∙ c.if-is_behind.true);
}

pub loop-low-preserved : goal.loop-low-preserved
loop-low-preserved c = record {
  ordered = omega arith;
  within = c.loop-low.invariant.within;
  below = none_up_to _ _ _ c.is_behind.ensures.sorted (omega (arith, c.loop-low.invariant.within)) (sym c.is_behind.ensures.behind ∙ c.if-is_behind.false);
  above = c.loop-low.invariant.above;
}

pub returns-clause-behind : goal.returns-clause-behind
returns-clause-behind c = drop_behind _ _ _ c.loop-low.invariant.below (λ j le within. c.loop-low.invariant.above j (omega (arith, le, c.loop-low-test.false)) within)
