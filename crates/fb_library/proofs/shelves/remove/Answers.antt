-- One shelf lets the name go.
use Rattle.std.proofs.Common.{◌≡◌, length-set, refl, ap, ◌∙◌, arith}
use Rattle.std.proofs.lemmas.Grind.{common_steps}
use Rattle.std.specs.{Map.{remove_entry}, BTreeMap.{is_at}}
use Rattle.fb_parse.specs.Text.Order.{name_cmp}
use Rattle.fb_library.specs.{Entries.{shelf_of}, declared.shelves.Shelf.{Shelf}}
use Rattle.fb_library.proofs.ShelfRows.{at_reached, shelf_removed, entries_removed}
use Rattle.fb_library.proofs.shelves.remove.Goals as goal

pub index-requires : goal.index-requires
index-requires g c = grind (arith, common_steps, at_reached (shelf_of g.E.Entries.entries) c.args.shelves.now.items c.args.name.now c.shelf_for-at.result)

pub index_mut-requires : goal.index_mut-requires
index_mut-requires g c = grind (arith, common_steps, at_reached (shelf_of g.E.Entries.entries) c.args.shelves.now.items c.args.name.now c.shelf_for-at.result)

pub clear_away-requires : goal.clear_away-requires
clear_away-requires g c =
    let entries = g.E.Entries.entries in
    let ss = c.args.shelves.now.items in
    let name = c.args.name.now in
    let now : Shelf g.row.E.Denot = record { last = c.index_mut.result.now.last; entries = c.in_ok-entries-2.entries } in
    let is = rw c.as_slice.ensures.value at c.shelf_for-at.ensures in
    let lt = at_reached (shelf_of entries) ss name c.shelf_for-at.result is c.requires.there in
    let gone : entries c.in_ok-entries-2.entries.value ≡ remove_entry (is_at (name_cmp name)) (entries c.index.result.now.entries.value) = ap entries c.in_ok-entries-2.ensures.ok ∙ c.in_ok-remove.ensures.ok ∙ ap (remove_entry (is_at (name_cmp name))) (c.in_ok-entries.ensures ∙ ap entries c.deref.ensures) in
    record {
      at = omega (arith, lt, length-set ss c.shelf_for-at.result now);
      order = shelf_removed (shelf_of entries) ss name c.shelf_for-at.result c.index.result.now c.index_mut.result.now now lt c.requires.order is c.index.ensures c.index_mut.ensures.value refl gone;
    }

pub returns : goal.returns
returns g c =
    let entries = g.E.Entries.entries in
    let ss = c.args.shelves.now.items in
    let name = c.args.name.now in
    let now : Shelf g.row.E.Denot = record { last = c.index_mut.result.now.last; entries = c.in_ok-entries-2.entries } in
    let is = rw c.as_slice.ensures.value at c.shelf_for-at.ensures in
    let lt = at_reached (shelf_of entries) ss name c.shelf_for-at.result is c.requires.there in
    let gone : entries c.in_ok-entries-2.entries.value ≡ remove_entry (is_at (name_cmp name)) (entries c.index.result.now.entries.value) = ap entries c.in_ok-entries-2.ensures.ok ∙ c.in_ok-remove.ensures.ok ∙ ap (remove_entry (is_at (name_cmp name))) (c.in_ok-entries.ensures ∙ ap entries c.deref.ensures) in
    record {
      order = c.clear_away.ensures.order;
      ok = c.clear_away.ensures.same ∙ entries_removed (shelf_of entries) ss name c.shelf_for-at.result c.index.result.now c.index_mut.result.now now lt c.requires.order is c.index.ensures c.index_mut.ensures.value refl gone;
      err = tt;
    }
