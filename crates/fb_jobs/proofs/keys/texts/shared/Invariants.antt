use Rattle.std.proofs.Common.{◌≡◌, List, take}
use Rattle.fb_jobs.specs.{Reads.{Seen}, Replaced.{all_replaced}}
use Rattle.fb_jobs.proofs.keys.texts.shared.Given as goal

abbrev pub invariant-loop-it : goal.invariant-loop-it
invariant-loop-it l = (reads : List Seen) → all_replaced reads l.all.items ≡ all_replaced reads (take l.it-index l.replacements)
