-- The closures compare what the entries say.
use Rattle.std.proofs.{Common.{◌≡◌, refl, rules}, lemmas.Fn.{always_returns_same, dedup_same}, lemmas.List.Sorted.{ranks_by, IsPermutation-trans}}
use Rattle.std.specs.Ordering.{eq_by_cmp, is_lt}
use Rattle.fb_network.specs.{Laid.{link_at}, LinkOrder.{link_cmp, link_cmp_total}}
use Rattle.fb_network.proofs.{Equals.{exact_link}, SortedOnce.{sorted_once}}
use Rattle.fb_network.proofs.flat.order.sort_joins.Goals as goal

pub returns-in_ok-sort_by : goal.returns-in_ok-sort_by
returns-in_ok-sort_by c =
    let says = link_at c.args.prefixes.now in
    sorted_once says link_cmp link_cmp_total (λ x y e. exact_link x y e) _ _ _
    (IsPermutation-trans _ _ _ c.in_ok-gather_sorts.ensures c.in_ok-sort_by.ensures.permutation)
    (c.in_ok-sort_by.ensures.sorted (λ a b. is_lt (link_cmp (says a) (says b))) (ranks_by link_cmp_total says)
    (always_returns_same _ (λ a r. is_lt r ≡ is_lt (link_cmp (says a.0.now) (says a.1.0.now))) _ (λ a r f' k. search rules)))
    (dedup_same _ (λ x y. eq_by_cmp link_cmp (says x) (says y)) _ (λ x y b f' x' y' k. search rules) _ _ c.dedup_by.ensures.filtered)

pub returns-else-not-joins_rise : goal.returns-else-not-joins_rise
returns-else-not-joins_rise c = rw c.as_slice.ensures.value at (c.if-not-joins_rise.ensures refl)
