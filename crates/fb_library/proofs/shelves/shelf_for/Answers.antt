-- The closure compares a shelf's last name, and these rise.
use Rattle.std.proofs.{Common.{rules}, lemmas.Fn.{always_returns_same}}
use Rattle.fb_parse.specs.Text.Order.{name_cmp}
use Rattle.fb_library.specs.Entries.{shelf_of}
use Rattle.fb_library.proofs.ShelfRows.{shelf_found, shelf_missed}
use Rattle.fb_library.proofs.shelves.shelf_for.Goals as goal

pub returns-in-Ok : goal.returns-in-Ok
returns-in-Ok g c =
    shelf_found (shelf_of g.E.Entries.entries) c.args.shelves.now c.args.name.now c.in-Ok.at c.requires c.in-Ok.ensures.bound (c.in-Ok.ensures.position (λ shelf. name_cmp shelf.last c.args.name.now) (always_returns_same _ _ _ (λ a r f called. search rules)))

pub returns-in-Err : goal.returns-in-Err
returns-in-Err g c =
    shelf_missed (shelf_of g.E.Entries.entries) c.args.shelves.now c.args.name.now c.in-Err.at c.requires c.in-Err.ensures.bound (c.in-Err.ensures.position (λ shelf. name_cmp shelf.last c.args.name.now) (always_returns_same _ _ _ (λ a r f called. search rules)))
