-- Which commits wait for the workers.
use Rattle.std.specs.Prelude.{◌≡◌, ◌<◌, ◌+◌, ◌==◌, if◌then◌else◌, min, ℕ, Bool, true, false, List, Option, Some, None, slice_set}
use Rattle.fb_host.specs.declared.pace.RecentCommits.{RecentCommits}

-- Rests are counted: moments at which all that was pending had been taken. A seat whose commits have reached 256 keys since one waits for the next one.
abbrev pub MayCommit : RecentCommits → (rests : ℕ) → Type 0
MayCommit recent rests = recent.rests ≡ rests → recent.reached < 256

abbrev pub no_commits : RecentCommits
no_commits = record { rests = 0; reached = 0 }

-- what was reached before the last rest counts no longer
abbrev pub since : RecentCommits → (rests : ℕ) → RecentCommits
since recent rests = record { rests = rests; reached = if recent.rests == rests then recent.reached else 0 }

abbrev pub with_reached : RecentCommits → (keys : ℕ) → RecentCommits
with_reached recent keys = record { rests = recent.rests; reached = min (recent.reached + keys) 256 }

-- A seat that may commit begins its count again after a rest, and nothing else changes. One without a place may commit.
abbrev pub IsAdmitted : Option RecentCommits → List RecentCommits → (caller rests : ℕ) → Bool → List RecentCommits → Type 0
IsAdmitted None old caller rests turn new = (turn ≡ true) × (new ≡ old)
IsAdmitted (Some recent) old caller rests true new = MayCommit recent rests × (new ≡ slice_set old caller (since recent rests))
IsAdmitted (Some recent) old caller rests false new = (MayCommit recent rests → ⊥) × (new ≡ old)

-- The keys that a commit has reached are counted at the place of its seat, and nothing else changes.
abbrev pub HasReached : Option RecentCommits → List RecentCommits → (caller keys : ℕ) → List RecentCommits → Type 0
HasReached None old caller keys new = new ≡ old
HasReached (Some recent) old caller keys new = new ≡ slice_set old caller (with_reached recent keys)
