use Rattle.std.proofs.Common.{length}
use Rattle.fb_jobs.proofs.keys.texts.+latest.Given as goal

abbrev pub decreases-latest : goal.decreases-latest
decreases-latest l = length l.replacements.now
