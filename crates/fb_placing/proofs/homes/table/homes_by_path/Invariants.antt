-- The homes passed so far.
use Rattle.std.proofs.Common.{◌≡◌, ℕ, List, take}
use Rattle.fb_placing.specs.{Cuts.{home_at}, HomeTable.{home_by_path}}
use Rattle.fb_placing.proofs.homes.table.homes_by_path.Given as goal

abbrev pub invariant-loop-home : goal.invariant-loop-home
invariant-loop-home l = (q : List ℕ) → home_by_path l.by_path q ≡ home_at (take l.home-index l.homes) q
