-- No names are in order.
use Rattle.std.proofs.Common.{map, sym, subst}
use Rattle.std.specs.List.Sorted.{IsStrictlySortedBy}
use Rattle.fb_text.specs.Order.{name_cmp}
use Rattle.fb_index.proofs.name_set.NameSet.new.Goals as goal

pub invariant_of-result : goal.invariant_of-result
unfolding IsStrictlySortedBy
invariant_of-result c = subst (λ es. IsStrictlySortedBy name_cmp (map (λ e. e.0) es)) (sym c.new-2.ensures) tt
