-- The count stands under the name, and nothing else is changed.
use Rattle.fb_network.proofs.Equals.{not_at}
use Rattle.fb_types.proofs.counts.add_count.Goals as goal

pub returns-in_ok-insert-clause-others : goal.returns-in_ok-insert-clause-others
returns-in_ok-insert-clause-others g c = λ other n. c.in_ok-insert.ensures.updates.2 other (not_at c.args.name.now other n)
