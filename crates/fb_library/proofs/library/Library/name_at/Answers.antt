-- The texts have the names of the units.
use Rattle.fb_library.proofs.Units.{units_named}
use Rattle.fb_library.proofs.library.Library.name_at.Goals as goal

pub returns-clause-name : goal.returns-clause-name
returns-clause-name c = rw (← c.self.view_is, units_named c.self.inside.units) c.name_at.ensures.name

pub returns-clause-sorted : goal.returns-clause-sorted
returns-clause-sorted c = rw (← c.self.view_is, units_named c.self.inside.units) c.name_at.ensures.sorted
