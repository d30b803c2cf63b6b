use Rattle.std.proofs.Common.{◌≡◌, take}
use Rattle.std.specs.List.{filter_map}
use Rattle.fb_history.specs.{Events.{put_unit}, Records.{text_edit}}
use Rattle.fb_history.proofs.event.put_units.Given as goal

abbrev pub invariant-loop-change : goal.invariant-loop-change
invariant-loop-change l = l.units.items ≡ filter_map (λ change. put_unit (text_edit change)) (take l.change-index l.changes)
