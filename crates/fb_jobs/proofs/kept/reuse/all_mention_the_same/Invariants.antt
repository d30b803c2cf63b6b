use Rattle.std.proofs.Common.{take}
use Rattle.std.specs.List.{AllZip}
use Rattle.fb_jobs.specs.{Reuse.{MentionsTheSame}, Values.{all_seen}}
use Rattle.fb_jobs.proofs.kept.reuse.all_mention_the_same.Given as goal

abbrev pub invariant-loop-place : goal.invariant-loop-place
invariant-loop-place l = AllZip MentionsTheSame (take l.place l.before) (take l.place (all_seen l.now))
