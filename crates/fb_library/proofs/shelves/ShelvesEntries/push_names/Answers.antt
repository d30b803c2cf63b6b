-- One shelf more has its names behind those before.
use Rattle.std.proofs.{Common.{ℕ, List, take, append_assoc, arith}, lemmas.Grind.{common_steps}, lemmas.List.{take_all}}
use Rattle.fb_library.specs.Entries.{shelf_of, entries_on}
use Rattle.fb_library.proofs.Tables.{names_append, entries_more}
use Rattle.fb_library.proofs.shelves.ShelvesEntries.push_names.Goals as goal

pub loop-shelf-preserved : goal.loop-shelf-preserved
loop-shelf-preserved g c =
    let entries = g.E.Entries.entries in
    let before = entries_on entries (take c.loop-shelf.shelf-index c.deref-shelf-items.result.now) in
    rw (entries_more (shelf_of entries) c.deref-shelf-items.result.now c.loop-shelf.shelf-index c.shelf-item.result c.loop-shelf-test.true c.shelf-item.is, names_append before (entries c.shelf-item.result.entries.value))
    (grind (arith, common_steps, append_assoc {A = List ℕ}))

pub returns : goal.returns
returns g c =
    rw (← c.self.view_is, ← c.deref-shelf-items.ensures.value)
    (rw (take_all c.loop-shelf.shelf-index c.deref-shelf-items.result.now c.loop-shelf-test.false) at c.loop-shelf.invariant)
