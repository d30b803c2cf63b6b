-- What is reached has a shelf.
use Rattle.fb_library.specs.Entries.{shelf_of}
use Rattle.fb_library.proofs.ShelfRows.{at_reached}
use Rattle.fb_library.proofs.shelves.make_room.Goals as goal

pub returns-clause-room : goal.returns-clause-room
returns-clause-room g c =
    at_reached (shelf_of g.E.Entries.entries) c.widen.new.shelves.items c.args.name.now c.shelf_for.result (rw c.as_slice-2.ensures.value at c.shelf_for.ensures) c.in_ok-widen.ensures.room
