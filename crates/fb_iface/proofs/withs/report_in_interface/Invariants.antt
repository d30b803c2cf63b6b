use Rattle.std.proofs.Common.{◌≡◌, ◌++◌, take}
use Rattle.std.specs.List.{flat_map}
use Rattle.fb_tree.specs.Tree.{event_tree}
use Rattle.fb_iface.specs.{Names.{stands_for}, Withs.{event_withs}}
use Rattle.fb_iface.proofs.withs.report_in_interface.Given as goal

abbrev pub invariant-loop-event : goal.invariant-loop-event
invariant-loop-event l =
    l.found.items ≡ l.initial.found.items ++ flat_map (λ e. event_withs (stands_for l.own.variables) (event_tree e)) (take l.event-index l.event-items)
