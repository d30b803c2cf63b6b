-- Places as they are stored in memory.
use Rattle.std.specs.Prelude.{◌≡◌, ◌+◌, ◌*◌, ◌/◌, ◌%◌}
use Rattle.std.proofs.lemmas.Nat.{div-add-mod'}
use Rattle.fb_text.specs.{declared.token.Span.{Span}, declared.place.Place.TheInside.{Inside}}

-- the span of a place: its start, and then its end in 32 bits
abbrev pub packed_span : Inside → Span
packed_span a = record { start = a.packed / 4294967296; end = a.packed % 4294967296 }

-- the number follows from the span
pub packed_again : (a : Inside) → record { packed = (packed_span a).start * 4294967296 + (packed_span a).end } ≡ a
packed_again a i = record { packed = div-add-mod' a.packed 4294967296 i }
