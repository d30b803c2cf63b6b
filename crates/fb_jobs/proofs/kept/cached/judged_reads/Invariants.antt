use Rattle.std.proofs.Common.{take}
use Rattle.fb_jobs.specs.{Cached.{AreJudged}, Values.{all_seen}}
use Rattle.fb_jobs.proofs.kept.cached.judged_reads.Given as goal

abbrev pub invariant-loop-read : goal.invariant-loop-read
invariant-loop-read g l = AreJudged (g.K.Cache.kept l.kept) (all_seen (take l.read-index l.reads)) l.found
