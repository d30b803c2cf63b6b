use Rattle.std.proofs.Common.{take}
use Rattle.fb_jobs.specs.Cached.{AreNetsOf}
use Rattle.fb_jobs.proofs.kept.cached.nets_of.Given as goal

abbrev pub invariant-loop-hint : goal.invariant-loop-hint
invariant-loop-hint l = AreNetsOf (take l.hint-index l.hints) l.nets
