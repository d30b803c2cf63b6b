-- What some items of a list give, and the last event.
use Rattle.std.proofs.Common.{◌≡◌, ◌+◌, ℕ, List, [], ◌∷◌, ◌++◌, Option, if◌then◌else◌, ap, length, map, refl, ◌∙◌, arith}
use Rattle.std.specs.List.{cons_option, filter_map}
use Rattle.fb_history.specs.{BenchView.{Record}, Events.{is_event, last_event_in}}

pub filter_map-map : {X Y Z : Type 0} (h : Y → Option Z) (f : X → Y) (xs : List X) → filter_map h (map f xs) ≡ filter_map (λ x. h (f x)) xs
filter_map-map h f [] = refl
filter_map-map h f (x ∷ xs) = ap (cons_option (h (f x))) (filter_map-map h f xs)

-- one call more at the end
pub event_pushed : (last before : ℕ) (records : List Record) (it : Record) → last_event_in last before (records ++ it ∷ []) ≡ (if is_event it then before + length records + 1 else last_event_in last before records)
event_pushed last before [] it = let at : before + 1 ≡ before + 0 + 1 = omega arith in ap (λ n. if is_event it then n else last) at
event_pushed last before (first ∷ records) it =
    let at : (before + 1) + length records + 1 ≡ before + length (first ∷ records) + 1 = omega arith in
    event_pushed (if is_event first then before + 1 else last) (before + 1) records it
    ∙ ap (λ n. if is_event it then n else last_event_in (if is_event first then before + 1 else last) (before + 1) records) at
