use Rattle.std.proofs.Common.{refl}
use Rattle.fb_serve.proofs.Sessions.{session_runs, session_shown}
use Rattle.fb_serve.proofs.session.run_session.Goals as goal

pub returns-clause-conversation : goal.returns-clause-conversation
returns-clause-conversation g c =
    let t = c.run_lines-end.ensures.conversation.0 in
    let runs = session_runs t.pairs _ _ _ _ _ _ c.new.ensures.items refl c.run_lines-end.ensures.conversation.1 c.desk.view_is in
    (t, (session_shown t.pairs _ _ _ runs).0, runs)

pub returns-clause-run : goal.returns-clause-run
returns-clause-run g c =
    let t = c.run_lines-end.ensures.conversation.0 in
    (session_shown t.pairs _ _ _ (session_runs t.pairs _ _ _ _ _ _ c.new.ensures.items refl c.run_lines-end.ensures.conversation.1 c.desk.view_is)).1
