-- The parts passed so far make one text.
use Rattle.std.proofs.Common.{◌≡◌, take}
use Rattle.fb_placing.specs.TextParts.{joined}
use Rattle.fb_placing.proofs.plan.text_parts.are_same_parts.Given as goal

abbrev pub invariant-loop-place : goal.invariant-loop-place
invariant-loop-place l = joined (take l.place l.a) ≡ joined (take l.place l.b)
