use denote.Param.Send.{sendable}
use Rattle.std.proofs.Crossing.{crosses}
use Rattle.fb_shared.proofs.Crossing.{seat_send}
use Rattle.fb_serve.proofs.Crossing.{caller_state_send}
use Rattle.fb_host.proofs.Crossing.{host_state_sync}
use Rattle.fb_host.proofs.threads.start_keeper.Goals as goal

pub spawn-requires-send-F : goal.spawn-requires-send-F
spawn-requires-send-F g c κs within = search (c.type_bounds, host_state_sync, seat_send, crosses, sendable) depth 60 fits 20000

pub spawn-requires-send-T : goal.spawn-requires-send-T
spawn-requires-send-T g c κs within = search (caller_state_send, crosses, sendable) depth 60 fits 20000
