-- The commands passed so far are the same.
use Rattle.std.proofs.Common.{ℕ, ◌≡◌, ◌<◌}
use Rattle.std.specs.Prelude.{slice_get}
use Rattle.fb_placing.proofs.plan.same.are_same_commands.Given as goal

abbrev pub invariant-loop-place : goal.invariant-loop-place
invariant-loop-place l = (k : ℕ) → k < l.place → slice_get l.a.commands k ≡ slice_get l.b.commands k
