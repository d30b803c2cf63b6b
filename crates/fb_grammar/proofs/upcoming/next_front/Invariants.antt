use Rattle.std.proofs.Common.{◌-◌, length}
use Rattle.fb_grammar.proofs.PullLemmas.{HasPassed}
use Rattle.fb_grammar.proofs.upcoming.next_front.Given as goal

abbrev pub invariant-loop-place : goal.invariant-loop-place
invariant-loop-place l = HasPassed l.text l.from l.place l.quotes

abbrev pub decreases-loop-place : goal.decreases-loop-place
decreases-loop-place l = length l.text - l.place
