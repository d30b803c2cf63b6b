use denote.Param.Send.{sendable}
use Rattle.std.proofs.Crossing.{crosses}
use Rattle.fb_shared.proofs.Crossing.{shared_sync}
use Rattle.shared_tests.proofs.long_jobs.calls_are_answered_while_a_long_job_runs.Goals as goal

pub join-told-requires-send-F : goal.join-told-requires-send-F
join-told-requires-send-F g c κs within = search (shared_sync, crosses, sendable) depth 60 fits 20000
