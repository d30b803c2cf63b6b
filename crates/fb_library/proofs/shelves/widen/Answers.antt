-- The shelf that does not end below the name is still there once it is two.
use Rattle.std.proofs.Common.{arith}
use Rattle.fb_library.specs.Entries.{shelf_of}
use Rattle.fb_library.proofs.ShelfRows.{reached_at}
use Rattle.fb_library.proofs.shelves.widen.Goals as goal

pub returns-then-at-len-clause-room : goal.returns-then-at-len-clause-room
returns-then-at-len-clause-room g c =
    grind (arith, c.halve.ensures.room c.args.name.now (reached_at (shelf_of g.E.Entries.entries) c.args.shelves.now.items c.args.name.now c.args.at c.requires.at (omega arith)))
