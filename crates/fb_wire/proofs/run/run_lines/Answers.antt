use Rattle.std.proofs.Common.{◌≡◌, ℕ, ◌≤◌, ◌+◌, ◌++◌, [], ◌∙◌, Err, List, Ok, ap, append-nil, append_assoc, arith, length, length-append, rules, subst, sym}
use Rattle.std.proofs.KnownBytes.{Consumes-nil, Consumes-trans}
use Rattle.fb_bench.specs.Calls.{Exchanges}
use Rattle.fb_wire.specs.{declared.end.RunEnd.{RunEnd}, Turns.{StopsRead}}
use Rattle.fb_wire.specs.declared.end.RunEnd.TheVariants as end
use Rattle.fb_wire.proofs.{Ends.{not_failed}, Takings.{begins, pieces_come, run_breaks, run_stops}}
use Rattle.fb_wire.proofs.run.run_lines.Goals as goal

-- what is given grows
length_given : (before more now : List ℕ) → now ≡ before ++ more → length before ≤ length now
length_given before more now e =
    let long : length now ≡ length before + length more = ap length e ∙ length-append before more in
    omega (arith, long)

not_over : (it : RunEnd) → it ≡ end.TurnsOver → StopsRead it → ⊥
not_over it is stops = subst StopsRead is stops

pub returns-in-Err-clause-conversation : goal.returns-in-Err-clause-conversation
returns-in-Err-clause-conversation g c =
    let inv = c.loop-turn.invariant in
    let turn = rw c.in-Err.is at c.take_turn.ensures.taken in
    let both = pieces_come g.D.Desk.has_reads (Exchanges g.D.Desk.step g.D.Desk.checkpoint_step g.D.Desk.read_step) c.args.desk.now c.loop-turn.desk c.take_turn.new.desk [] c.loop-turn.conversation.line.items c.take_turn.new.conversation.line.items [] c.loop-turn.conversation.held.items c.take_turn.new.conversation.held.items
    (g.S.Sink.held c.args.writer.now) (g.S.Sink.held c.loop-turn.writer) (g.S.Sink.held c.take_turn.new.writer) inv.3 turn.0 [] (Err c.in-Err.end) inv.6 turn.3 in
    let ran = run_stops g.D.Desk.has_reads (Exchanges g.D.Desk.step g.D.Desk.checkpoint_step g.D.Desk.read_step) c.args.desk.now c.take_turn.new.desk c.take_turn.new.conversation.line.items c.take_turn.new.conversation.held.items (g.S.Sink.held c.args.writer.now) (g.S.Sink.held c.take_turn.new.writer) (inv.3 ++ turn.0) c.in-Err.end both in
    let left = Consumes-trans (g.F.Feed.left c.args.reader.now) (g.F.Feed.left c.loop-turn.reader) (g.F.Feed.left c.take_turn.new.reader) inv.3 turn.0 inv.5 turn.2 in (
      record {
        bytes = inv.3 ++ turn.0;
        pairs = ran.0;
        out = ran.1;
        given = turn.1 ∙ ap (λ xs. xs ++ turn.0) inv.4 ∙ append_assoc _ inv.3 turn.0;
        consumed = left;
        written = ran.3;
        stands = ran.4;
        shown = record {
          whole = search rules;
          turns_are = search rules;
          all_turns = search rules;
          gave =
              let longer = length_given (g.F.Feed.given c.loop-turn.reader) turn.0 (g.F.Feed.given c.take_turn.new.reader) turn.1 in
              omega (arith, longer, inv.2, inv.8, c.take_turn.ensures.turn);
          all_gave = λ is. absurd (not_over c.in-Err.end is (rw c.in-Err.is at c.take_turn.ensures.end));
          read_failed = search rules;
          flushed = search rules;
          write_failed = search rules;
        };
      },
      ran.2,
    )

pub returns-clause-conversation : goal.returns-clause-conversation
returns-clause-conversation g c =
    let inv = c.loop-turn.invariant in
    let ran = run_breaks g.D.Desk.has_reads (Exchanges g.D.Desk.step g.D.Desk.checkpoint_step g.D.Desk.read_step) c.args.desk.now c.loop-turn.desk c.loop-turn.conversation.line.items c.loop-turn.conversation.held.items (g.S.Sink.held c.args.writer.now) (g.S.Sink.held c.loop-turn.writer) inv.3 inv.6 in (
      record {
        bytes = inv.3;
        pairs = ran.0;
        out = ran.1;
        given = inv.4;
        consumed = inv.5;
        written = ran.3;
        stands = ran.4;
        shown = record {
          whole = λ is. let other : end.TurnsOver ≡ end.End = is in absurd cc;
          turns_are = search rules;
          all_turns = search rules;
          gave = omega (arith, inv.2, inv.8);
          all_gave = λ is. omega (arith, inv.2, inv.8);
          read_failed = search rules;
          flushed = search rules;
          write_failed = search rules;
        };
      },
      ran.2,
    )

pub returns-in-Err-clause-open : goal.returns-in-Err-clause-open
returns-in-Err-clause-open g c = λ is. absurd (not_over c.in-Err.end is (rw c.in-Err.is at c.take_turn.ensures.end))

pub returns-clause-open : goal.returns-clause-open
returns-clause-open g c = λ _. c.loop-turn.invariant.9

pub loop-turn-init : goal.loop-turn-init
loop-turn-init g c = (
  c.requires.reader,
  c.requires.writer,
  omega arith,
  [],
  sym (append-nil _),
  Consumes-nil _,
  rw (c.new-conversation.ensures.line, c.new-conversation.ensures.held) (begins g.D.Desk.has_reads (Exchanges g.D.Desk.step g.D.Desk.checkpoint_step g.D.Desk.read_step) _ _),
  λ was. was,
  omega arith,
  c.requires.open,
)

pub loop-turn-preserved : goal.loop-turn-preserved
loop-turn-preserved g c =
    let inv = c.loop-turn.invariant in
    let turn = rw c.in-Ok.is at c.take_turn.ensures.taken in
    let both = pieces_come g.D.Desk.has_reads (Exchanges g.D.Desk.step g.D.Desk.checkpoint_step g.D.Desk.read_step) c.args.desk.now c.loop-turn.desk c.take_turn.new.desk [] c.loop-turn.conversation.line.items c.take_turn.new.conversation.line.items [] c.loop-turn.conversation.held.items c.take_turn.new.conversation.held.items
    (g.S.Sink.held c.args.writer.now) (g.S.Sink.held c.loop-turn.writer) (g.S.Sink.held c.take_turn.new.writer) inv.3 turn.0 [] (Ok tt) inv.6 turn.3 in
    let left = Consumes-trans (g.F.Feed.left c.args.reader.now) (g.F.Feed.left c.loop-turn.reader) (g.F.Feed.left c.take_turn.new.reader) inv.3 turn.0 inv.5 turn.2 in
    let written = not_failed end.WriteFailed _ c.take_turn.result c.take_turn.ensures.write_failed c.in-Ok.is in (
      not_failed end.ReadFailed _ c.take_turn.result c.take_turn.ensures.read_failed c.in-Ok.is,
      written,
      omega (arith, c.take_turn.ensures.turn),
      inv.3 ++ turn.0,
      turn.1 ∙ ap (λ xs. xs ++ turn.0) inv.4 ∙ append_assoc _ inv.3 turn.0,
      left,
      both,
      λ was. c.take_turn.ensures.flushed (inv.7 was) written,
      (let more = rw c.in-Ok.is at c.take_turn.ensures.gave in omega (arith, inv.8, more)),
      rw c.in-Ok.is at c.take_turn.ensures.open,
    )
