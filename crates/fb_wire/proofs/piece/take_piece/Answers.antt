use Rattle.std.proofs.{Common.{◌≡◌, ◌<◌, ◌-◌, ◌+◌, [], ◌∷◌, ◌++◌, Err, Ok, arith, drop, length, take}, Math.Seq.{take-length}, lemmas.List.{take-append-drop}}
use Rattle.std.proofs.lemmas.Grind.{common_steps}
use Rattle.fb_bench.specs.Calls.{Exchanges}
use Rattle.fb_wire.specs.declared.end.RunEnd.TheVariants as end
use Rattle.fb_wire.proofs.{Ends.{not_failed}, Takings.{part_extends, pieces_come, stops_sooner, taken_all, taken_on}}
use Rattle.fb_wire.proofs.piece.take_piece.Goals as goal

pub returns-then-len-rest-clause-taken : goal.returns-then-len-rest-clause-taken
returns-then-len-rest-clause-taken g c =
    let whole = rw (c.if-len-rest.true, take-length) at c.line_len-len.ensures.line in
    let part = part_extends g.D.Desk.has_reads (Exchanges g.D.Desk.step g.D.Desk.checkpoint_step g.D.Desk.read_step) c.loop-at.desk c.loop-at.conversation.line.items c.extend_line.new.line.items (take (length c.args.piece.now - c.loop-at.at) (drop c.loop-at.at c.args.piece.now)) c.loop-at.conversation.held.items (g.S.Sink.held c.loop-at.writer) c.extend_line.result whole c.extend_line.ensures in
    let both = pieces_come g.D.Desk.has_reads (Exchanges g.D.Desk.step g.D.Desk.checkpoint_step g.D.Desk.read_step) c.args.desk.now c.loop-at.desk c.loop-at.desk c.args.conversation.now.line.items c.loop-at.conversation.line.items c.extend_line.new.line.items c.args.conversation.now.held.items c.loop-at.conversation.held.items c.loop-at.conversation.held.items
    (g.S.Sink.held c.args.writer.now) (g.S.Sink.held c.loop-at.writer) (g.S.Sink.held c.loop-at.writer) (take c.loop-at.at c.args.piece.now) (take (length c.args.piece.now - c.loop-at.at) (drop c.loop-at.at c.args.piece.now)) [] c.extend_line.result c.loop-at.invariant.2 part in
    rw (taken_all c.args.piece.now c.loop-at.at) at both

pub loop-at-preserved : goal.loop-at-preserved
loop-at-preserved g c =
    let short : c.line_len-len.result < length (take (length c.args.piece.now - c.loop-at.at) (drop c.loop-at.at c.args.piece.now)) = omega (arith, c.line_len-len.ensures.within, c.if-len-rest.false) in
    let next = rw c.in-Ok.is at (c.end_line.ensures.taken []) in
    let both = pieces_come g.D.Desk.has_reads (Exchanges g.D.Desk.step g.D.Desk.checkpoint_step g.D.Desk.read_step) c.args.desk.now c.loop-at.desk c.end_line.new.desk c.args.conversation.now.line.items c.loop-at.conversation.line.items c.end_line.new.conversation.line.items c.args.conversation.now.held.items c.loop-at.conversation.held.items c.end_line.new.conversation.held.items
    (g.S.Sink.held c.args.writer.now) (g.S.Sink.held c.loop-at.writer) (g.S.Sink.held c.end_line.new.writer) (take c.loop-at.at c.args.piece.now) (take c.line_len-len.result (take (length c.args.piece.now - c.loop-at.at) (drop c.loop-at.at c.args.piece.now)) ++ 10 ∷ []) [] (Ok tt) c.loop-at.invariant.2 next in (
      grind (arith, common_steps, c.line_len-len.ensures.within, c.if-len-rest.false),
      not_failed end.WriteFailed _ c.end_line.result c.end_line.ensures.failed c.in-Ok.is,
      rw (taken_on c.args.piece.now c.loop-at.at c.line_len-len.result (c.line_len-len.ensures.end short)) at both,
      λ was. c.end_line.ensures.flushed (c.loop-at.invariant.3 was) (not_failed end.WriteFailed _ c.end_line.result c.end_line.ensures.failed c.in-Ok.is),
    )

pub returns-in-Err-clause-taken : goal.returns-in-Err-clause-taken
returns-in-Err-clause-taken g c =
    let short : c.line_len-len.result < length (take (length c.args.piece.now - c.loop-at.at) (drop c.loop-at.at c.args.piece.now)) = omega (arith, c.line_len-len.ensures.within, c.if-len-rest.false) in
    let behind = drop (c.loop-at.at + (c.line_len-len.result + 1)) c.args.piece.now in
    let next = rw c.in-Err.is at (c.end_line.ensures.taken behind) in
    let both = pieces_come g.D.Desk.has_reads (Exchanges g.D.Desk.step g.D.Desk.checkpoint_step g.D.Desk.read_step) c.args.desk.now c.loop-at.desk c.end_line.new.desk c.args.conversation.now.line.items c.loop-at.conversation.line.items c.end_line.new.conversation.line.items c.args.conversation.now.held.items c.loop-at.conversation.held.items c.end_line.new.conversation.held.items
    (g.S.Sink.held c.args.writer.now) (g.S.Sink.held c.loop-at.writer) (g.S.Sink.held c.end_line.new.writer) (take c.loop-at.at c.args.piece.now) (take c.line_len-len.result (take (length c.args.piece.now - c.loop-at.at) (drop c.loop-at.at c.args.piece.now)) ++ 10 ∷ []) behind (Err c.in-Err.end) c.loop-at.invariant.2 next in
    let prefix = rw (taken_on c.args.piece.now c.loop-at.at c.line_len-len.result (c.line_len-len.ensures.end short)) at both in
    let all = stops_sooner g.D.Desk.has_reads (Exchanges g.D.Desk.step g.D.Desk.checkpoint_step g.D.Desk.read_step) c.args.desk.now c.end_line.new.desk c.args.conversation.now.line.items c.end_line.new.conversation.line.items c.args.conversation.now.held.items c.end_line.new.conversation.held.items (g.S.Sink.held c.args.writer.now) (g.S.Sink.held c.end_line.new.writer)
    (take (c.loop-at.at + (c.line_len-len.result + 1)) c.args.piece.now) behind c.in-Err.end prefix in
    rw (take-append-drop (c.loop-at.at + (c.line_len-len.result + 1)) c.args.piece.now) at all

pub returns-clause-taken : goal.returns-clause-taken
returns-clause-taken g c =
    let end : c.loop-at.at ≡ length c.args.piece.now = omega arith in
    rw (end, take-length) at c.loop-at.invariant.2
