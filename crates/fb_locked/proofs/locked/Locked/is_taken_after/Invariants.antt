use Rattle.std.proofs.Common.{◌≡◌, ◌≤◌, ◌<◌, ℕ, false}
use Rattle.fb_locked.specs.Rolling.{takes_at}
use Rattle.fb_locked.proofs.locked.Locked.is_taken_after.Given as goal

abbrev pub invariant-loop-place : goal.invariant-loop-place
invariant-loop-place l = (number : ℕ) → l.first < number → number ≤ l.place → takes_at l.self.bench l.key number ≡ false
