use denote.Param.Send.{sendable}
use Rattle.std.proofs.Crossing.{crosses}
use Rattle.fb_shared.proofs.Crossing.{receipt_send, seat_send, shared_sync}
use Rattle.shared_tests.proofs.threads.two_jobs_run_at_once.Goals as goal

pub join-a-requires-send-F : goal.join-a-requires-send-F
join-a-requires-send-F g c κs within = search (seat_send, shared_sync, crosses, sendable) depth 60 fits 20000

pub join-a-requires-send-A : goal.join-a-requires-send-A
join-a-requires-send-A g c κs within = search (receipt_send, crosses, sendable) depth 60 fits 20000
