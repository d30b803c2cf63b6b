-- Words and symbols by their length, as they are looked up.
use Rattle.std.specs.{Prelude.{ℕ, ◌&&◌, List, length, nat_le, nat_eq, slice_index}, Char.{to_ascii_lowercase}, List.{filter}}
use Rattle.fb_grammar.specs.{declared.kind.Kind.{Kind}, ReservedWords.{reserved_words, symbols}}

-- the reserved words whose number of letters is between these two
unfoldable pub words_between : ℕ → ℕ → List (List ℕ × Kind)
words_between low high = filter (λ e. nat_le low (length e.0) && nat_le (length e.0) high) reserved_words

-- the symbols of this number of bytes
unfoldable pub symbols_of : ℕ → List (List ℕ × Kind)
symbols_of n = filter (λ e. nat_eq (length e.0) n) symbols

-- the first letter in lower case
abbrev pub initial : List ℕ → ℕ
initial word = to_ascii_lowercase (slice_index word 0)
