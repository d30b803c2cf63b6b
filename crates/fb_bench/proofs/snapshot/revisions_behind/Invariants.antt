use Rattle.std.proofs.Common.{◌-◌, ◌≡◌, ◌≤◌, drop, map, take}
use Rattle.fb_history.specs.Reads.{revision_of_entry}
use Rattle.fb_bench.proofs.snapshot.revisions_behind.Given as goal

abbrev pub invariant-loop-place : goal.invariant-loop-place
invariant-loop-place l = l.units.items ≡ map revision_of_entry (take (l.place - l.first) (drop l.first l.library))
