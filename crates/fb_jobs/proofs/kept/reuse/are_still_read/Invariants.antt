use Rattle.std.proofs.Common.{take}
use Rattle.fb_jobs.specs.{Cached.{is_flagged}, Reuse.{AreStillRead}, Values.{all_seen}}
use Rattle.fb_jobs.proofs.kept.reuse.are_still_read.Given as goal

abbrev pub invariant-loop-place : goal.invariant-loop-place
invariant-loop-place l = AreStillRead l.unit (is_flagged (all_seen l.now) l.faultless) (take l.place (all_seen l.before)) (take l.place (all_seen l.now))
