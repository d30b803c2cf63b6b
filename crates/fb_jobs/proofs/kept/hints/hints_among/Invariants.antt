use Rattle.std.proofs.Common.{take, All}
use Rattle.fb_deploy.specs.Library.Texts.{Texts}
use Rattle.fb_jobs.specs.{Hints.{AreChosen}, Reads.{IsOf}, Values.{all_seen}}
use Rattle.fb_jobs.proofs.kept.hints.hints_among.Given as goal

abbrev pub invariant-loop-read : goal.invariant-loop-read
invariant-loop-read g l = (texts : Texts) → All (IsOf texts) (all_seen l.reads) → AreChosen texts (g.K.Cache.kept l.kept) l.unit (all_seen (take l.read-index l.reads)) l.hints.items
