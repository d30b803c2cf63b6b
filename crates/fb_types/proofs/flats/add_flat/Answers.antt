-- The flat network stands under the name, and nothing else is changed.
use Rattle.fb_network.proofs.Equals.{not_at}
use Rattle.fb_types.proofs.flats.add_flat.Goals as goal

pub returns-clause-others : goal.returns-clause-others
returns-clause-others g c = λ other n. c.in_ok-insert.ensures.updates.2 other (not_at c.args.name.now other n)

pub returns-clause-added : goal.returns-clause-added
returns-clause-added g c = record { flat = c.in_ok-flat.flat; found = c.in_ok-insert.ensures.updates.1; composed = c.in_ok-flat.ensures }
