use denote.Param.Send.{sendable}
use Rattle.std.proofs.Crossing.{crosses}
use Rattle.fb_host.proofs.Crossing.{host_state_sync}
use Rattle.fb_host.proofs.threads.start_waker.Goals as goal

pub spawn-requires-send-F : goal.spawn-requires-send-F
spawn-requires-send-F g c κs within = search (c.type_bounds, host_state_sync, crosses, sendable) depth 60 fits 20000
