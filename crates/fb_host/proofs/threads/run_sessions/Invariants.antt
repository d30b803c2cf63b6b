use Rattle.fb_host.specs.HostSessions.{LeadsTo}
use Rattle.fb_host.proofs.threads.run_sessions.Given as goal

abbrev pub invariant-loop : goal.invariant-loop
invariant-loop g l = LeadsTo l.fn.state.seat l.state.seat
