-- A name is on the shelf that the index reaches.
use Rattle.std.proofs.{Common.{◌+◌, ◌-◌, length, drop, slice_get, ap, sym, ◌∙◌, arith}, lemmas.Grind.{common_steps}}
use Rattle.fb_library.specs.{Entries.{shelf_of, entries_on}, Shelves.{names_of}}
use Rattle.fb_library.proofs.Tables.{name_first, name_later, entries_left}
use Rattle.fb_library.proofs.shelves.ShelvesEntries.name_at.Goals as goal

pub loop-shelf-preserved : goal.loop-shelf-preserved
loop-shelf-preserved g c =
    let entries = g.E.Entries.entries in
    let shelves = c.deref-shelf-items.result.now in
    let left = entries_on entries (drop (c.loop-shelf.shelf-index + 1) shelves) in
    let here = entries_left (shelf_of entries) shelves c.loop-shelf.shelf-index c.shelf-item.result c.loop-shelf-test.true c.shelf-item.is in
    grind (arith, common_steps, name_later (entries c.shelf-item.result.entries.value) left c.loop-shelf.index (c.loop-shelf.index - c.len-here.result))

pub returns-then-index-here : goal.returns-then-index-here
returns-then-index-here g c =
    let entries = g.E.Entries.entries in
    let shelves = c.deref-shelf-items.result.now in
    let held = entries c.shelf-item.result.entries.value in
    rw (← c.self.view_is, ← c.deref-shelf-items.ensures.value)
    (c.name_at.ensures ∙ (λ i. slice_get (names_of (entries (c.deref-then-index-here.ensures i))) c.loop-shelf.index)
    ∙ sym (name_first held (entries_on entries (drop (c.loop-shelf.shelf-index + 1) shelves)) c.loop-shelf.index (omega (arith, c.if-index-here.true, c.len-here.ensures, ap (λ e. length (entries e)) c.deref.ensures)))
    ∙ (rw (entries_left (shelf_of entries) shelves c.loop-shelf.shelf-index c.shelf-item.result c.loop-shelf-test.true c.shelf-item.is) at c.loop-shelf.invariant))
