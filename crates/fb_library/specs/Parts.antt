-- Parts of texts.
use Rattle.std.specs.Prelude.{ℕ, Bool, ◌&&◌, ◌||◌, List, [], length, nat_lt, nat_le, slice_index, slice_range, if◌then◌else◌}
use Rattle.fb_parse.specs.Text.declared.token.Span.{Span}

-- whether a place in a text is between two characters, at its start or at its end
abbrev pub is_boundary : List ℕ → ℕ → Bool
is_boundary text i = nat_le i (length text) && (nat_le (length text) i || nat_lt (slice_index text i) 128 || nat_le 192 (slice_index text i))

-- the part of a text, empty if the span is none of it
abbrev pub part : List ℕ → Span → List ℕ
part text span = if nat_le span.start span.end && is_boundary text span.start && is_boundary text span.end then slice_range text span.start span.end else []
