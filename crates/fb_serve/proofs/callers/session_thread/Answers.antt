use Rattle.fb_serve.proofs.Counts.{run_shown}
use Rattle.fb_serve.proofs.callers.session_thread.Goals as goal

pub of-requires : goal.of-requires
of-requires g c = run_shown _ _ _ c.args.seat.is_new c.run_session-end.ensures.run
