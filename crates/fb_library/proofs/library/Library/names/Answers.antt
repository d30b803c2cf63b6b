-- The texts have the names of the units.
use Rattle.fb_library.proofs.Units.{units_named}
use Rattle.fb_library.proofs.library.Library.names.Goals as goal

pub returns-clause-names : goal.returns-clause-names
returns-clause-names c = rw (← c.self.view_is, units_named c.self.inside.units) c.names.ensures.names

pub returns-clause-sorted : goal.returns-clause-sorted
returns-clause-sorted c = rw (← c.self.view_is, units_named c.self.inside.units) c.names.ensures.sorted
