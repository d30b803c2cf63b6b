-- The links compare equal where they say the same.
use Rattle.std.proofs.Common.{ap, ◌∙◌}
use Rattle.std.specs.Ordering.{is_eq}
use Rattle.fb_network.proofs.Alike.{one_link}
use Rattle.fb_placing.proofs.plan.same.is_same_link.Goals as goal

pub returns : goal.returns
returns c = rw (c.is_eq.ensures ∙ ap is_eq c.compare_links.ensures) (one_link _ _)
