use Rattle.std.proofs.Common.{◌≡◌, ◌<◌, ℕ, true, length, get_or}
use Rattle.fb_secret.proofs.hmac.is_same.Given as goal

abbrev pub invariant-loop-place : goal.invariant-loop-place
invariant-loop-place l =
    (l.same ≡ true → (length l.bytes ≡ length l.wanted) × ((k : ℕ) → k < l.place → get_or l.bytes k 0 ≡ get_or l.wanted k 0))
    × (l.bytes ≡ l.wanted → l.same ≡ true)
