use Rattle.std.specs.{FinMap.{slice_cmp-IsAntisymmetric, nat_cmp-IsAntisymmetric}, Cmp.Lexicographic.{nat_list_cmp_total}}
use Rattle.fb_text.specs.Order.{name_cmp}
use Rattle.fb_text.proofs.OrderLemmas.{in_order-sorted, in_order-members}
use Rattle.fb_text.proofs.order.names_once_and_in_order.Goals as goal

pub returns : goal.returns
returns c = record {
  sorted = in_order-sorted name_cmp nat_list_cmp_total;
  same = in_order-members name_cmp nat_list_cmp_total (slice_cmp-IsAntisymmetric nat_cmp-IsAntisymmetric);
}
