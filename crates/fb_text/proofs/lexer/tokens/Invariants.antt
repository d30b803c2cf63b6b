use Rattle.std.proofs.Common.{◌-◌, length}
use Rattle.fb_text.proofs.Reading.{HasScanned}
use Rattle.fb_text.proofs.lexer.tokens.Given as goal

abbrev pub invariant-loop-place : goal.invariant-loop-place
invariant-loop-place l = HasScanned l.text l.tokens.items l.refused l.place l.quotes

abbrev pub decreases-loop-place : goal.decreases-loop-place
decreases-loop-place l = length l.text - l.place
