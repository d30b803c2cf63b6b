use Rattle.fb_bench.specs.Calls.{Exchanges}
use Rattle.fb_wire.proofs.Takings.{line_cut, line_ends, line_stops}
use Rattle.fb_wire.proofs.piece.end_line.Goals as goal

pub returns-in-Err-clause-taken : goal.returns-in-Err-clause-taken
returns-in-Err-clause-taken g c =
    let stopped = rw c.in-Err.is at c.extend_line.ensures in
    λ behind. line_stops g.D.Desk.has_reads (Exchanges g.D.Desk.step g.D.Desk.checkpoint_step g.D.Desk.read_step) _ c.args.conversation.now.line.items _ c.args.prefix.now behind _ _ c.in-Err.end c.requires.line stopped

pub returns-in-Ok-say_line-clause-taken : goal.returns-in-Ok-say_line-clause-taken
returns-in-Ok-say_line-clause-taken g c =
    let extended = rw c.in-Ok.is at c.extend_line.ensures in
    let fits = rw extended.0 at extended.1 in
    let said = rw (extended.0, c.in-Ok-say_line.is) at c.say_line.ensures.said in
    λ behind. rw c.clear.ensures.items (line_ends g.D.Desk.has_reads (Exchanges g.D.Desk.step g.D.Desk.checkpoint_step g.D.Desk.read_step) _ _ c.args.conversation.now.line.items c.args.prefix.now behind _ _ _ _ c.requires.line fits said)

pub returns-in-Err-say_line-clause-taken : goal.returns-in-Err-say_line-clause-taken
returns-in-Err-say_line-clause-taken g c =
    let extended = rw c.in-Ok.is at c.extend_line.ensures in
    let fits = rw extended.0 at extended.1 in
    let said = rw (extended.0, c.in-Err-say_line.is) at c.say_line.ensures.said in
    λ behind.
    line_cut g.D.Desk.has_reads (Exchanges g.D.Desk.step g.D.Desk.checkpoint_step g.D.Desk.read_step) _ _ c.args.conversation.now.line.items c.say_line.new.conversation.line.items c.args.prefix.now behind c.args.conversation.now.held.items c.say_line.new.conversation.held.items _ _ c.in-Err-say_line.end c.requires.line fits said
