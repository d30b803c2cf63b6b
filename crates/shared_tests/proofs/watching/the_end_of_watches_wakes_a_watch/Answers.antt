use denote.Param.Send.{sendable}
use Rattle.std.proofs.Crossing.{crosses}
use Rattle.fb_shared.proofs.Crossing.{shared_sync}
use Rattle.shared_tests.proofs.watching.the_end_of_watches_wakes_a_watch.Goals as goal

pub join-told-requires-send-F : goal.join-told-requires-send-F
join-told-requires-send-F g c κs within = search (shared_sync, crosses, sendable) depth 60 fits 20000
