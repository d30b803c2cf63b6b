-- Rules for tactics.
use Rattle.std.proofs.lemmas.{List.{append-nil, append_assoc, map-append}, Simd.{map-map}, Str.{IsUtf8-from_is_utf8, is_utf8-from_IsUtf8}}

pub ruleset joins = (append-nil, append_assoc, map-append)

pub ruleset maps = (map-map)

pub ruleset texts = (IsUtf8-from_is_utf8, is_utf8-from_IsUtf8)
