-- One shelf more has so many entries more.
use Rattle.std.proofs.{Common.{take, arith}, lemmas.Grind.{common_steps}, lemmas.List.{length-append}}
use Rattle.fb_library.specs.Entries.{shelf_of, entries_on}
use Rattle.fb_library.proofs.Tables.{entries_more}
use Rattle.fb_library.proofs.shelves.counted.Goals as goal

pub loop-shelf-preserved : goal.loop-shelf-preserved
loop-shelf-preserved g c =
    let entries = g.E.Entries.entries in
    let before = entries_on entries (take c.loop-shelf.shelf-index c.args.shelves.now) in
    rw (entries_more (shelf_of entries) c.args.shelves.now c.loop-shelf.shelf-index c.shelf-item.result c.loop-shelf-test.true c.shelf-item.is)
    (grind (arith, common_steps, length-append before (entries c.shelf-item.result.entries.value)))
