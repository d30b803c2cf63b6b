use Rattle.std.proofs.Common.{◌≡◌, ◌≤◌, ◌+◌, ◌++◌, [], ℕ, List, Ok, false, length, true}
use Rattle.std.specs.Io.KnownBytes.{Consumes}
use Rattle.fb_bench.specs.Calls.{Exchanges}
use Rattle.fb_wire.specs.Progress.{PieceTaken}
use Rattle.fb_wire.proofs.run.run_lines.Given as goal

abbrev pub invariant-loop-turn : goal.invariant-loop-turn
invariant-loop-turn g l =
    (g.F.Feed.has_failed l.reader ≡ false) × (g.S.Sink.has_failed l.writer ≡ false) × (g.F.Feed.reads l.reader ≡ g.F.Feed.reads l.fn.reader + l._turn)
    × (bytes : List ℕ) × (g.F.Feed.given l.reader ≡ g.F.Feed.given l.fn.reader ++ bytes) × Consumes (g.F.Feed.left l.fn.reader) (g.F.Feed.left l.reader) bytes
    × PieceTaken g.D.Desk.has_reads (Exchanges g.D.Desk.step g.D.Desk.checkpoint_step g.D.Desk.read_step) l.fn.desk [] [] (g.S.Sink.held l.fn.writer) bytes [] (Ok tt) l.desk l.conversation.line.items l.conversation.held.items (g.S.Sink.held l.writer)
    × (g.S.Sink.is_flushed l.fn.writer ≡ true → g.S.Sink.is_flushed l.writer ≡ true)
    × (length (g.F.Feed.given l.fn.reader) + l._turn ≤ length (g.F.Feed.given l.reader)) × (g.F.Feed.has_ended l.reader ≡ false)
