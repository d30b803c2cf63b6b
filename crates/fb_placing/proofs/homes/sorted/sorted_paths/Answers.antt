-- Two strictly sorted lists with the same members are one.
use Rattle.std.specs.{Cmp.Lexicographic.{nat_list_cmp_total}, FinMap.{slice_cmp-IsAntisymmetric, nat_cmp-IsAntisymmetric}}
use Rattle.fb_tree.specs.Text.Order.{name_cmp}
use Rattle.fb_tree.proofs.Text.OrderLemmas.{in_order-members, in_order-sorted}
use Rattle.fb_network.proofs.SameSorted.{same_sorted}
use Rattle.fb_placing.proofs.homes.sorted.sorted_paths.Goals as goal

pub returns : goal.returns
returns c =
    let xs = c.args.paths.items in
    let members = in_order-members name_cmp nat_list_cmp_total (slice_cmp-IsAntisymmetric nat_cmp-IsAntisymmetric) xs in
    same_sorted nat_list_cmp_total _ _ c.in_ok-sort_once.ensures.sorted (in_order-sorted name_cmp nat_list_cmp_total xs)
    (λ z m. (members z).1 (c.in_ok-sort_once.ensures.added z m)) (λ z m. c.in_ok-sort_once.ensures.kept z ((members z).0 m))
