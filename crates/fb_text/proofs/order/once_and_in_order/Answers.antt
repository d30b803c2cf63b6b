use Rattle.fb_text.proofs.OrderLemmas.{in_order-sorted, in_order-members}
use Rattle.fb_text.proofs.order.once_and_in_order.Goals as goal

pub returns : goal.returns
returns g c = record {
  sorted = in_order-sorted g.T.Ord.cmp g.met.T.Ord.total;
  same = in_order-members g.T.Ord.cmp g.met.T.Ord.total c.requires;
}
