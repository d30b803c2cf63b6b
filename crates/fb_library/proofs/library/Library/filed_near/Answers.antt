-- What the table has under the name is held there.
use Rattle.std.proofs.Common.{sym, ap, ◌∙◌}
use Rattle.fb_library.proofs.Units.{held_there, own_there}
use Rattle.fb_library.proofs.library.Library.filed_near.Goals as goal

pub returns-in-Some-clause-held : goal.returns-in-Some-clause-held
returns-in-Some-clause-held c = rw (← c.self.view_is, held_there c.self.inside.units c.args.unit.now, ← c.in-Some.ensures, c.deref.ensures)

pub returns-in-Some-clause-own : goal.returns-in-Some-clause-own
returns-in-Some-clause-own c =
    ap (λ it. it.unit) c.deref.ensures ∙ own_there c.self.inside.units c.args.unit.now c.in-Some.filed.now.value c.self.invariant (sym c.in-Some.ensures)

pub returns-in-None-clause-held : goal.returns-in-None-clause-held
returns-in-None-clause-held c = rw (← c.self.view_is, held_there c.self.inside.units c.args.unit.now, ← c.in-None.ensures)
