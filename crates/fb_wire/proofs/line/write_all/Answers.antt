use Rattle.std.proofs.{Common.{arith}, lemmas.Grind.{common_steps}}
use Rattle.fb_wire.proofs.Pieces.{written_on}
use Rattle.fb_wire.proofs.line.write_all.Goals as goal

pub loop-at-preserved : goal.loop-at-preserved
loop-at-preserved g c =
    (grind (arith, common_steps, c.in-Ok.ensures.within), c.in-Ok.ensures.failed, written_on c.args.bytes.now _ _ _ c.loop-at.at c.in-Ok.count c.loop-at.invariant.2 c.in-Ok.ensures.held)
