-- The name stands at no place so far.
use Rattle.std.proofs.Common.{ℕ, ◌<◌, Some}
use Rattle.std.specs.Prelude.{◌≢◌, slice_get}
use Rattle.fb_placing.proofs.plan.by_resource.place_of.Given as goal

abbrev pub invariant-loop-place : goal.invariant-loop-place
invariant-loop-place l = (k : ℕ) → k < l.place → slice_get l.names k ≢ Some l.name
