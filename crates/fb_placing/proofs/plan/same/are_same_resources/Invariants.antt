-- The resources passed so far are the same.
use Rattle.std.proofs.Common.{ℕ, ◌≡◌, ◌<◌}
use Rattle.std.specs.Prelude.{slice_get}
use Rattle.fb_placing.proofs.plan.same.are_same_resources.Given as goal

abbrev pub invariant-loop-place : goal.invariant-loop-place
invariant-loop-place l = (k : ℕ) → k < l.place → slice_get l.a.resources k ≡ slice_get l.b.resources k
