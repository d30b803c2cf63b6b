use Rattle.fb_wire.proofs.Conversations.{refused_kept}
use Rattle.fb_wire.proofs.answer.keep_taken.Goals as goal

pub returns-in-Err : goal.returns-in-Err
returns-in-Err c = rw c.in-Err.is (refused_kept c.args.held.now.items c.in-Err.refused _ c.refused_reply.ensures)
