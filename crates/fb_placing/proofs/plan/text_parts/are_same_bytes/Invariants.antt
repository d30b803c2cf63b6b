-- The bytes passed so far are the same.
use Rattle.std.proofs.Common.{ℕ, ◌≡◌, ◌<◌}
use Rattle.std.specs.Prelude.{slice_get}
use Rattle.fb_placing.specs.TextParts.{joined}
use Rattle.fb_placing.proofs.plan.text_parts.are_same_bytes.Given as goal

abbrev pub invariant-loop-place : goal.invariant-loop-place
invariant-loop-place l = (k : ℕ) → k < l.place → slice_get (joined l.a) k ≡ slice_get (joined l.b) k
