-- The name is found on its shelf, or nowhere.
use Rattle.std.proofs.{Common.{arith}, lemmas.Grind.{common_steps}}
use Rattle.fb_library.specs.Entries.{shelf_of}
use Rattle.fb_library.proofs.Tables.{found_on, none_on}
use Rattle.fb_library.proofs.shelves.ShelvesEntries.get_near.Goals as goal

pub returns-in-Some : goal.returns-in-Some
returns-in-Some g c =
    grind (arith, common_steps, found_on (shelf_of g.E.Entries.entries) c.as_slice-shelves.result.now c.args.name.now c.shelf_near-at.result c.in-Some.shelf.now)

pub returns-in-None : goal.returns-in-None
returns-in-None g c = grind (arith, common_steps, none_on (shelf_of g.E.Entries.entries) c.as_slice-shelves.result.now c.args.name.now c.shelf_near-at.result)
