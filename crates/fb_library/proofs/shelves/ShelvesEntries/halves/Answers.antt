-- A half of shelves in order is in order, and both together are all.
use Rattle.std.proofs.{Common.{◌/◌, length, subst}, lemmas.List.{take_rest, take-map, drop-map}}
use Rattle.std.proofs.{Common.{arith}, lemmas.Grind.{common_steps}}
use Rattle.fb_library.specs.{Entries.{shelf_of, shelves_of}, Shelves.{AreShelves}}
use Rattle.fb_library.proofs.Halves.{all_halves, lower_half, upper_half}
use Rattle.fb_library.proofs.shelves.ShelvesEntries.halves.Goals as goal

pub counted-requires : goal.counted-requires
counted-requires g c =
    let entries = g.E.Entries.entries in
    let shelves = c.as_slice-shelves.result.now in
    let half = length shelves / 2 in
    subst AreShelves (take-map (shelf_of entries) half shelves) (lower_half (shelves_of entries shelves) half (rw c.as_slice-shelves.ensures.value c.self.invariant.order))

pub counted-requires-2 : goal.counted-requires-2
counted-requires-2 g c =
    let entries = g.E.Entries.entries in
    let shelves = c.as_slice-shelves.result.now in
    let half = length shelves / 2 in
    rw (take_rest shelves half)
    (subst AreShelves (drop-map (shelf_of entries) half shelves) (upper_half (shelves_of entries shelves) half (rw c.as_slice-shelves.ensures.value c.self.invariant.order)))

pub returns : goal.returns
returns g c =
    let entries = g.E.Entries.entries in
    let shelves = c.as_slice-shelves.result.now in
    let half = length shelves / 2 in
    grind (arith, common_steps, take_rest shelves half, take-map (shelf_of entries) half shelves, drop-map (shelf_of entries) half shelves, all_halves (shelves_of entries shelves) half)
