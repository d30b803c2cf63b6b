use Rattle.std.proofs.Common.{◌-◌, ◌≡◌, ◌≤◌, ◌<◌, false, length, true, ℕ}
use Rattle.fb_history.specs.Reads.{behind_at}
use Rattle.fb_bench.proofs.snapshot.first_behind_name.Given as goal

abbrev pub invariant-loop-low : goal.invariant-loop-low
invariant-loop-low l = record {
  ordered : l.low ≤ l.high;
  within : l.high ≤ length l.library;
  below : (j : ℕ) → j < l.low → j < length l.library → behind_at l.name l.library j ≡ false;
  above : (j : ℕ) → l.high ≤ j → j < length l.library → behind_at l.name l.library j ≡ true;
}

abbrev pub decreases-loop-low : goal.decreases-loop-low
decreases-loop-low l = l.high - l.low
