-- The first line of a file, and why it is no secret.
use Rattle.std.specs.{Prelude.{◌≡◌, ◌<◌, ◌==◌, ℕ, [], Bool, List, length}, List.{before_first}}
use Rattle.fb_secret.specs.{declared.file.NoSecret.{NoSecret}, declared.file.NoSecret.TheVariants.{Empty, TooLong, TooShort}}

abbrev pub is_line_end : ℕ → Bool
is_line_end byte = byte == 10

-- the bytes before the first LF, or all if there is none
abbrev pub first_line : List ℕ → List ℕ
first_line bytes = before_first is_line_end bytes

abbrev pub IsNoSecret : List ℕ → NoSecret → Type 0
IsNoSecret line Empty = line ≡ []
IsNoSecret line TooShort = length line < 16
IsNoSecret line TooLong = 4096 < length line
