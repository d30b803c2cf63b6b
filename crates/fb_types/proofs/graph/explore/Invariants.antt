use Rattle.fb_types.proofs.{ExploreLemmas.{IsExplored}, SearchLemmas.{fuel}}
use Rattle.fb_types.proofs.graph.explore.Given as goal

abbrev pub invariant-loop-step : goal.invariant-loop-step
invariant-loop-step g l = IsExplored (g.V.View.sources l.view) l.begun l.names.keys l.forth l.back l.steps.items

abbrev pub decreases-loop-step : goal.decreases-loop-step
decreases-loop-step g l = fuel (g.V.View.sources l.view) l.begun l.names.keys l.steps.items
