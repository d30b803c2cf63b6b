use denote.Param.Send.{IsSync, sendable}
use Rattle.std.proofs.Common.{rules}
use Rattle.std.proofs.Crossing.{crosses}
use Rattle.fb_shared.proofs.Crossing.{seat_send, shared_sync}
use Rattle.shared_tests.proofs.waiting.compare.Goals as goal

pub join-ended-requires-send-F : goal.join-ended-requires-send-F
join-ended-requires-send-F g c κs within =
    let s : IsSync g.row.R = search rules parts 8 in
    search (seat_send, shared_sync, crosses, sendable) depth 60 fits 20000
