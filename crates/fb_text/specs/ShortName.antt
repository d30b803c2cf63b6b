-- Short names.
use Rattle.std.specs.Prelude.{ℕ, nat_le, if◌then◌else◌, List, length, Option, Some, None}

-- how many bytes a short name has at most
abbrev pub short_room : ℕ
short_room = 22

-- the name, if it is short
abbrev pub shortened : List ℕ → Option (List ℕ)
shortened name = if nat_le (length name) short_room then Some name else None
