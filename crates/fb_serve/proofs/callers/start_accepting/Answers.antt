use denote.Param.Send.{sendable}
use Rattle.std.proofs.Crossing.{crosses}
use Rattle.fb_shared.proofs.Crossing.{shared_sync}
use Rattle.fb_serve.proofs.Crossing.{listener_sync, new_seat_send, results_send, sender_send}
use Rattle.fb_serve.proofs.callers.start_accepting.Goals as goal

pub spawn-requires-send-F : goal.spawn-requires-send-F
spawn-requires-send-F g c κs within = search (listener_sync, sender_send, new_seat_send, shared_sync, crosses, sendable) depth 60 fits 20000

pub spawn-requires-send-T : goal.spawn-requires-send-T
spawn-requires-send-T g c κs within = search (results_send, crosses, sendable) depth 60 fits 20000
