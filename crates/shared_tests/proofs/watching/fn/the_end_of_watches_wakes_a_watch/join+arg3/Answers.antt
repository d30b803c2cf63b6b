use denote.Param.Send.{sendable}
use Rattle.std.proofs.Crossing.{crosses}
use Rattle.fb_shared.proofs.Crossing.{seat_send, shared_sync}
use Rattle.shared_tests.proofs.watching.fn.the_end_of_watches_wakes_a_watch.join+arg3.Goals as goal

pub join-requires-send-F : goal.join-requires-send-F
join-requires-send-F g c κs within = search (seat_send, shared_sync, crosses, sendable) depth 60 fits 20000
