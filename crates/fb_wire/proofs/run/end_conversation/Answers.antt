use Rattle.fb_bench.specs.Calls.{Exchanges}
use Rattle.fb_wire.proofs.{Ends.{inside_at_end}, Takings.{last_cut, last_ends}}
use Rattle.fb_wire.proofs.run.end_conversation.Goals as goal

pub returns-in-Ok-clause-taken : goal.returns-in-Ok-clause-taken
returns-in-Ok-clause-taken g c =
    let said = rw c.in-Ok.is at c.say_line.ensures.said in
    last_ends g.D.Desk.has_reads (Exchanges g.D.Desk.step g.D.Desk.checkpoint_step g.D.Desk.read_step) c.args.desk.now c.say_line.new.desk c.args.conversation.now.line.items c.say_line.new.conversation.line.items c.args.conversation.now.held.items c.say_line.new.conversation.held.items _ _ said

pub returns-in-Err-clause-taken : goal.returns-in-Err-clause-taken
returns-in-Err-clause-taken g c =
    let said = rw c.in-Err.is at c.say_line.ensures.said in
    last_cut g.D.Desk.has_reads (Exchanges g.D.Desk.step g.D.Desk.checkpoint_step g.D.Desk.read_step) c.args.desk.now c.say_line.new.desk c.args.conversation.now.line.items c.say_line.new.conversation.line.items c.args.conversation.now.held.items c.say_line.new.conversation.held.items _ _ c.in-Err.end said

pub returns-in-Err-clause-end : goal.returns-in-Err-clause-end
returns-in-Err-clause-end g c =
    let inside = rw c.in-Err.is at c.say_line.ensures.inside in
    inside_at_end c.in-Err.end inside
