use Rattle.std.proofs.Common.{◌≡◌, [], map, take}
use Rattle.fb_iface.specs.Names.{with_firsts}
use Rattle.fb_iface.proofs.ports.event_table.Given as goal

abbrev pub invariant-loop-event : goal.invariant-loop-event
invariant-loop-event l =
    l.table.entries ≡ with_firsts [] (map (λ e. (e.name.name, record { side = e.side; type_name = e.type_name })) (take l.event-index l.interface.events.items))
