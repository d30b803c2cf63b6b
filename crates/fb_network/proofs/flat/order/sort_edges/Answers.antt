-- The closures compare what the entries say.
use Rattle.std.proofs.{Common.{◌≡◌, rules}, lemmas.Fn.{always_returns_same, dedup_same}, lemmas.List.Sorted.{ranks_by}}
use Rattle.std.specs.Ordering.{eq_by_cmp, is_lt}
use Rattle.fb_network.specs.{Laid.{border_at}, LinkOrder.{border_cmp, border_cmp_total}}
use Rattle.fb_network.proofs.{Equals.{exact_border}, SortedOnce.{sorted_once}}
use Rattle.fb_network.proofs.flat.order.sort_edges.Goals as goal

pub returns : goal.returns
returns c =
    let says = border_at c.args.prefixes.now in
    sorted_once says border_cmp border_cmp_total (λ x y e. exact_border x y e) _ _ _ c.in_ok-sort_by.ensures.permutation
    (c.in_ok-sort_by.ensures.sorted (λ a b. is_lt (border_cmp (says a) (says b))) (ranks_by border_cmp_total says)
    (always_returns_same _ (λ a r. is_lt r ≡ is_lt (border_cmp (says a.0.now) (says a.1.0.now))) _ (λ a r f' k. search rules)))
    (dedup_same _ (λ x y. eq_by_cmp border_cmp (says x) (says y)) _ (λ x y b f' x' y' k. search rules) _ _ c.dedup_by.ensures.filtered)
