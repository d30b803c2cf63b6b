use Rattle.fb_types.proofs.SearchLemmas.{IsSearch, fuel}
use Rattle.fb_types.proofs.search.all_inner_first.Given as goal

abbrev pub invariant-loop-step : goal.invariant-loop-step
invariant-loop-step g l = IsSearch (g.V.View.sources l.view) l.names l.entered.keys l.left.keys l.order.items l.steps.items

abbrev pub decreases-loop-step : goal.decreases-loop-step
decreases-loop-step g l = fuel (g.V.View.sources l.view) l.names l.entered.keys l.steps.items
