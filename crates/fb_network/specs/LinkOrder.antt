-- The order of links and of borders: by sort, and then by bytes.
use Rattle.std.specs.{declared.cmp.Ordering.{Ordering}, Ordering.{nat_cmp, on, then_cmp}, Cmp.{IsTotalOrder, then_total, on_total, nat_cmp_total}}
use Rattle.std.specs.Cmp.Lexicographic.{nat_list_cmp_total}
use Rattle.fb_tree.specs.Text.Order.{name_cmp}
use Rattle.fb_network.specs.{Sorts.{number_of}, declared.flat.Link.{Link}, declared.flat.Border.{Border}}

-- by sort, then by the bytes of `from`, then of `to`
abbrev pub link_cmp : Link → Link → Ordering
link_cmp =
    then_cmp (on (λ (l : Link). number_of l.sort) nat_cmp)
    (then_cmp (on (λ (l : Link). l.from) name_cmp) (on (λ (l : Link). l.to) name_cmp))

pub link_cmp_total : IsTotalOrder link_cmp
link_cmp_total =
    then_total (on_total (λ (l : Link). number_of l.sort) nat_cmp_total)
    (then_total (on_total (λ (l : Link). l.from) nat_list_cmp_total) (on_total (λ (l : Link). l.to) nat_list_cmp_total))

-- by sort, then by the bytes of the port, then of the place
abbrev pub border_cmp : Border → Border → Ordering
border_cmp =
    then_cmp (on (λ (b : Border). number_of b.sort) nat_cmp)
    (then_cmp (on (λ (b : Border). b.port) name_cmp) (on (λ (b : Border). b.place) name_cmp))

pub border_cmp_total : IsTotalOrder border_cmp
border_cmp_total =
    then_total (on_total (λ (b : Border). number_of b.sort) nat_cmp_total)
    (then_total (on_total (λ (b : Border). b.port) nat_list_cmp_total) (on_total (λ (b : Border). b.place) nat_list_cmp_total))
