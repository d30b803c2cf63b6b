use Rattle.fb_types.proofs.OrderLemmas.{ordered_not_recursive}
use Rattle.fb_types.proofs.order_laws.ordered_is_not_recursive.Goals as goal

pub returns : goal.returns
returns c = ordered_not_recursive
