-- Half of the places are in order too, and both halves together are all.
use Rattle.std.proofs.{Common.{◌/◌, length, subst}, lemmas.List.{take_rest, take-map, drop-map, take-append-drop}}
use Rattle.std.proofs.{Common.{arith}, lemmas.Grind.{common_steps}}
use Rattle.std.specs.List.Sorted.{IsStrictlySortedBy}
use Rattle.fb_parse.specs.Text.Order.{name_cmp}
use Rattle.fb_library.specs.{Entries.{entry_of, entries_of}, Shelves.{names_of}}
use Rattle.fb_library.proofs.Wider.{sorted_low, sorted_high}
use Rattle.fb_library.proofs.placed.PlacesEntries.halves.Goals as goal

pub copied-requires : goal.copied-requires
copied-requires g c =
    let places = c.as_slice-places.result.now in
    let half = length places / 2 in
    subst (λ es. IsStrictlySortedBy name_cmp (names_of es)) (take-map entry_of half places) (sorted_low (entries_of places) half (rw c.as_slice-places.ensures.value c.self.invariant))

pub copied-requires-2 : goal.copied-requires-2
copied-requires-2 g c =
    let places = c.as_slice-places.result.now in
    let half = length places / 2 in
    rw (take_rest places half)
    (subst (λ es. IsStrictlySortedBy name_cmp (names_of es)) (drop-map entry_of half places) (sorted_high (entries_of places) half (rw c.as_slice-places.ensures.value c.self.invariant)))

pub returns : goal.returns
returns g c =
    let places = c.as_slice-places.result.now in
    let half = length places / 2 in
    grind (arith, common_steps, take_rest places half, take-map entry_of half places, drop-map entry_of half places, take-append-drop half (entries_of places))
