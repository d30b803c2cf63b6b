-- One shelf takes the value.
use Rattle.std.proofs.Common.{rules, ◌≡◌, ◌+◌, ◌-◌, refl, sym, ap, ◌∙◌, length, arith}
use Rattle.std.specs.BTreeMap.{insert_entry}
use Rattle.fb_parse.specs.Text.Order.{name_cmp}
use Rattle.fb_library.specs.{Entries.{shelf_of}, declared.shelves.Shelf.{Shelf}}
use Rattle.fb_library.proofs.{Counts.{length_shelf, length_changed}, ShelfRows.{shelf_put, entries_put}}
use Rattle.fb_library.proofs.shelves.put.Goals as goal

pub overflow_sub-others : goal.overflow_sub-others
overflow_sub-others g c =
    let entries = g.E.Entries.entries in
    let few = length_shelf (shelf_of entries) c.make_room.new.shelves.items c.in_ok-at.at c.index.result.now c.in_ok-at.ensures.room c.index.ensures in
    omega (arith, few, ap length (c.in_ok-entries.ensures ∙ ap entries c.deref.ensures), c.len.ensures, c.requires.counted, ap length c.in_ok-at.ensures.same)

pub returns : goal.returns
returns g c =
    let entries = g.E.Entries.entries in
    let ss = c.make_room.new.shelves.items in
    let at = c.in_ok-at.at in
    let there = c.in_ok-at.ensures in
    let old = c.index.result.now in
    let now : Shelf g.row.E.Denot = record { last = c.index_mut.result.now.last; entries = c.in_ok-entries-2.entries } in
    let copied = c.in_ok-entries.ensures ∙ ap entries c.deref.ensures in
    let taken : entries c.in_ok-entries-2.entries.value ≡ insert_entry name_cmp (entries old.entries.value) c.args.name c.args.value.value = ap entries c.in_ok-entries-2.ensures.ok ∙ c.in_ok-put.ensures.ok ∙ ap (λ es. insert_entry name_cmp es c.args.name c.args.value.value) copied in
    let before : c.len.result ≡ length (entries old.entries.value) = c.len.ensures ∙ ap length copied in
    let after : c.len-2.result ≡ length (entries c.in_ok-entries-2.entries.value) = c.len-2.ensures ∙ ap (λ e. length (entries e)) (sym c.in_ok-entries-2.ensures.ok) in
    let sum : c.in_ok-len.len ≡ (c.args.len - c.len.result) + c.len-2.result = search rules in
    let few = length_shelf (shelf_of entries) ss at old there.room c.index.ensures in
    let changed = length_changed (shelf_of entries) ss at old now there.room c.index.ensures in
    record {
      order = shelf_put (shelf_of entries) ss c.args.name at old c.index_mut.result.now now there.room there.order there.at c.index.ensures c.index_mut.ensures.value refl c.args.value.value taken;
      counted = omega (arith, few, sum, before, after, changed, c.requires.counted, ap length there.same);
      ok = entries_put (shelf_of entries) ss c.args.name at old c.index_mut.result.now now there.room there.order there.at c.index.ensures c.index_mut.ensures.value refl c.args.value.value taken
          ∙ (λ i. insert_entry name_cmp (there.same i) c.args.name c.args.value.value);
      err = tt;
    }
