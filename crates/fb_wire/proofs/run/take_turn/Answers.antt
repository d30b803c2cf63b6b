use Rattle.std.proofs.Common.{[], take}
use Rattle.fb_bench.specs.Calls.{Exchanges}
use Rattle.fb_wire.proofs.Takings.{read_fails}
use Rattle.fb_wire.proofs.run.take_turn.Goals as goal

pub returns-in-Err-clause-taken : goal.returns-in-Err-clause-taken
returns-in-Err-clause-taken g c =
    ([], c.in-Err.ensures.given, c.in-Err.ensures.left, read_fails g.D.Desk.has_reads (Exchanges g.D.Desk.step g.D.Desk.checkpoint_step g.D.Desk.read_step) _ _ _ _)

pub returns-then-count-eq0-clause-taken : goal.returns-then-count-eq0-clause-taken
returns-then-count-eq0-clause-taken g c =
    let given = rw c.if-count-eq0.true at c.in-Ok.ensures.given in
    let left = rw c.if-count-eq0.true at c.in-Ok.ensures.left in
    ([], given, left, c.end_conversation.ensures.taken)

pub returns-else-count-eq0-clause-taken : goal.returns-else-count-eq0-clause-taken
returns-else-count-eq0-clause-taken g c =
    (take c.in-Ok.count c.read.new.buffer, c.in-Ok.ensures.given, c.in-Ok.ensures.left, c.take_piece.ensures.taken)
