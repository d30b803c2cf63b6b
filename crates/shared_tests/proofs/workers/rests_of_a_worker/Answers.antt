use denote.Param.Send.{sendable}
use Rattle.std.proofs.Crossing.{crosses}
use Rattle.fb_shared.proofs.Crossing.{seat_send, shared_sync}
use Rattle.shared_tests.proofs.workers.rests_of_a_worker.Goals as goal

pub join-told-requires-send-F : goal.join-told-requires-send-F
join-told-requires-send-F g c κs within = search (seat_send, shared_sync, crosses, sendable) depth 60 fits 20000
