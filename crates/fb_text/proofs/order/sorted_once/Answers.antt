use Rattle.std.proofs.{Common.{refl, sym, ap, ◌∙◌}, lemmas.List.Filters.{dedup_is}}
use Rattle.fb_text.specs.Order.{in_order}
use Rattle.fb_text.proofs.SortLemmas.{in_order-dedup, in_order-itself}
use Rattle.fb_text.proofs.order.sorted_once.Goals as goal
use Rattle.fb_text.proofs.order.sorted_once.Goals.{then-not-rises+in_ok-sort, else-not-rises}

pub returns : goal.returns
returns g c =
    elim c.if-not-rises.branch [
      | then-not-rises+in_ok-sort w ↦
          ap (λ v. v.items) w.sorted-is
          ∙ dedup_is g.T.PartialEq.eq _ _ w.dedup.ensures.filtered
          ∙ in_order-dedup g.T.Ord.cmp g.met.T.Ord.total c.requires g.met.T.Eq.laws g.met.T.Ord.matches_eq _ _ w.sort.ensures.permutation w.in_ok-sort.ensures.sorted
          ∙ ap (in_order g.T.Ord.cmp) c.in_ok-sorted.ensures.items
      | else-not-rises w ↦
          ap (λ v. v.items) w.sorted-is
          ∙ c.in_ok-sorted.ensures.items
          ∙ sym (in_order-itself g.T.Ord.cmp _ (w.if-not-rises.ensures refl))
    ]
