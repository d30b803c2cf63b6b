use denote.Param.Send.{sendable}
use Rattle.std.proofs.Crossing.{crosses}
use Rattle.fb_shared.proofs.Crossing.{receipt_send, seat_send, shared_sync}
use Rattle.shared_tests.proofs.threads.fn.two_jobs_run_at_once.join+arg2.Goals as goal

pub join-requires-send-F : goal.join-requires-send-F
join-requires-send-F g c κs within = search (seat_send, shared_sync, crosses, sendable) depth 60 fits 20000

pub join-requires-send-A : goal.join-requires-send-A
join-requires-send-A g c κs within = search (receipt_send, crosses, sendable) depth 60 fits 20000
