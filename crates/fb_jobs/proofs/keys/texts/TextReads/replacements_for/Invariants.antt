use Rattle.std.proofs.Common.{◌≡◌, ◌++◌, take, drop}
use Rattle.fb_jobs.specs.Replaced.{all_replaced}
use Rattle.fb_jobs.proofs.keys.texts.TextReads.replacements_for.Given as goal

abbrev pub invariant-loop-place : goal.invariant-loop-place
invariant-loop-place l = all_replaced l.self l.later.items ≡ take l.place l.list ++ drop l.place l.self
