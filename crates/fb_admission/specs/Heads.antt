-- What a connection sends first.
use Rattle.std.specs.Prelude.{◌≡◌, ◌==◌, ◌||◌, ◌+◌, ◌++◌, ℕ, Bool, true, false, List, Option, Some, None, drop, is_some, length, not, slice_get}
use Rattle.std.specs.List.{position}
use Rattle.fb_secret.specs.Exchange.{IsForeign}

-- a space, a tab, or an end of a line
abbrev pub is_blank : ℕ → Bool
is_blank byte = (byte == 32) || ((byte == 9) || ((byte == 10) || (byte == 13)))

abbrev pub is_mark : ℕ → Bool
is_mark byte = not (is_blank byte)

-- the first byte that is no blank is a {
abbrev pub BeginsRequest : List ℕ → Type 0
BeginsRequest bytes = (n : ℕ) × (position is_mark bytes ≡ Some n) × (slice_get bytes n ≡ Some 123)

abbrev pub is_feed : ℕ → Bool
is_feed byte = byte == 10

-- whether bytes, whose first one that is no blank is at this place, show of what sort they are: they begin no request, or its line has ended
abbrev pub ShowsSort : List ℕ → Option ℕ → Bool → Type 0
ShowsSort bytes None shown = shown ≡ false
ShowsSort bytes (Some place) shown = ((BeginsRequest bytes → ⊥) → shown ≡ true) × (BeginsRequest bytes → shown ≡ is_some (position is_feed (drop place bytes)))

-- the line is the bytes up to their first line feed, and it; the rest is what comes after it
abbrev pub IsFirstLine : (bytes line rest : List ℕ) → Type 0
IsFirstLine bytes line rest = (n : ℕ) × (position is_feed bytes ≡ Some n) × (length line ≡ n + 1) × (bytes ≡ line ++ rest)

-- no line that comes first proves the secret for this challenge
abbrev pub ProvesNothing : (secret challenge bytes : List ℕ) → Type 0
ProvesNothing secret challenge bytes = (line rest : List ℕ) → IsFirstLine bytes line rest → IsForeign secret challenge line
