use denote.Param.Send.{IsSync, sendable}
use Rattle.std.proofs.Common.{rules}
use Rattle.std.proofs.Crossing.{crosses}
use Rattle.fb_shared.proofs.Crossing.{seat_send, shared_sync}
use Rattle.shared_tests.proofs.waiting.fn.compare.join+arg2.Goals as goal

pub map_vec-requires-send-J : goal.map_vec-requires-send-J
map_vec-requires-send-J g c κs within = search (seat_send, crosses, sendable) depth 60 fits 20000

pub map_vec-requires-sync-F : goal.map_vec-requires-sync-F
map_vec-requires-sync-F g c κs within =
    let s : IsSync g.row.R = search rules parts 8 in
    search (shared_sync, crosses, sendable) depth 60 fits 20000
