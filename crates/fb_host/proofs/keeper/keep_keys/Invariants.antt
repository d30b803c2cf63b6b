use Rattle.fb_host.specs.HostSessions.{LeadsTo}
use Rattle.fb_host.proofs.keeper.keep_keys.Given as goal

abbrev pub invariant-loop : goal.invariant-loop
invariant-loop g l = LeadsTo l.fn.state.seat l.state.seat
