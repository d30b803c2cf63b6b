use Rattle.std.proofs.Common.{◌≡◌, ◌≤◌, ◌-◌, [], Ok, false, length, take, true}
use Rattle.fb_bench.specs.Calls.{Exchanges}
use Rattle.fb_wire.specs.Progress.{PieceTaken}
use Rattle.fb_wire.proofs.piece.take_piece.Given as goal

abbrev pub invariant-loop-at : goal.invariant-loop-at
invariant-loop-at g l =
    (l.at ≤ length l.piece) × (g.S.Sink.has_failed l.writer ≡ false)
    × PieceTaken g.D.Desk.has_reads (Exchanges g.D.Desk.step g.D.Desk.checkpoint_step g.D.Desk.read_step) l.fn.desk l.fn.conversation.line.items l.fn.conversation.held.items (g.S.Sink.held l.fn.writer) (take l.at l.piece) [] (Ok tt) l.desk l.conversation.line.items l.conversation.held.items (g.S.Sink.held l.writer)
    × (g.S.Sink.is_flushed l.fn.writer ≡ true → g.S.Sink.is_flushed l.writer ≡ true)

abbrev pub decreases-loop-at : goal.decreases-loop-at
decreases-loop-at g l = length l.piece - l.at
