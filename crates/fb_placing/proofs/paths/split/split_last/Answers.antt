-- The path is split at its last point.
use Rattle.fb_placing.proofs.SplitLemmas.{split_at_last}
use Rattle.fb_placing.proofs.paths.split.split_last.Goals as goal

pub returns-clause-parts : goal.returns-clause-parts
returns-clause-parts c = (split_at_last c.args.path.now c.rsplit_once.result c.rsplit_once.ensures.cases).0

pub returns-clause-alone : goal.returns-clause-alone
returns-clause-alone c = (split_at_last c.args.path.now c.rsplit_once.result c.rsplit_once.ensures.cases).1
