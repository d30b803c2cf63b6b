use Rattle.std.proofs.Common.{refl, sym}
use Rattle.fb_bench.specs.Calls.{Exchanges}
use Rattle.fb_wire.proofs.Conversations.{blank_said}
use Rattle.fb_wire.proofs.line.say_line.Goals as goal

pub returns-then-is_blank-clause-said : goal.returns-then-is_blank-clause-said
returns-then-is_blank-clause-said g c =
    let blank = rw (c.deref.ensures.value, c.if-is_blank.true) at (sym c.is_blank.ensures) in
    blank_said (Exchanges g.D.Desk.step g.D.Desk.checkpoint_step g.D.Desk.read_step) g.D.Desk.has_reads c.args.conversation.now.line.items _ _ _ _ _ blank refl refl
