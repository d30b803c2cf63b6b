use denote.Param.Send.{sendable}
use Rattle.std.proofs.Crossing.{crosses}
use Rattle.fb_shared.proofs.Crossing.{seat_send, shared_sync}
use Rattle.fb_host.proofs.Crossing.{pace_sync, receipt_store_sync}
use Rattle.host_tests.proofs.colleagues.a_colleague_waits_for_nobody.Goals as goal

pub join-waits-requires-send-F : goal.join-waits-requires-send-F
join-waits-requires-send-F g c κs within = search (seat_send, shared_sync, receipt_store_sync, pace_sync, crosses, sendable) depth 60 fits 20000
