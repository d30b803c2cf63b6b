-- How long a write of a reply may wait.
use Rattle.std.specs.Prelude.{◌≡◌, ◌≤◌, ◌<◌, ◌+◌, ℕ, Option, Some, None}

-- A reply that began so long ago may take a most, and a write of it may wait for an idle time, or forever if that is 0. It waits until the reply has taken
-- its most, or for the idle time if that is over before; and not at all once the most is over.
abbrev pub IsReplyWait : (passed most idle : ℕ) → Option ℕ → Type 0
IsReplyWait passed most idle None = most ≤ passed
IsReplyWait passed most idle (Some wait) =
    (0 < wait) × (passed + wait ≤ most) × (0 < idle → wait ≤ idle) × (idle ≡ 0 → passed + wait ≡ most) × (wait < idle → passed + wait ≡ most)
