use Rattle.std.proofs.{Common.{arith}, lemmas.Grind.{common_steps}, lemmas.List.Elements.{filter_map-append}}
use Rattle.fb_history.proofs.EventLemmas.{filter_map-map}
use Rattle.fb_history.proofs.event.removed_units.Goals as goal

pub loop-change-preserved : goal.loop-change-preserved
loop-change-preserved c = grind (arith, common_steps, filter_map-append)

pub returns : goal.returns
returns c = grind (arith, common_steps, filter_map-map)
