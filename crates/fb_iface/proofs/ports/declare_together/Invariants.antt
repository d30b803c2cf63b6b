use Rattle.std.proofs.Common.{◌≡◌, map, take}
use Rattle.fb_iface.specs.Names.{with_firsts}
use Rattle.fb_iface.proofs.ports.declare_together.Given as goal

abbrev pub invariant-loop-name : goal.invariant-loop-name
invariant-loop-name l =
    l.table.entries ≡ with_firsts l.initial.table.entries (map (λ n. (n.name, record { section = l.group.section; type_use = l.group.type_use })) (take l.name-index l.group.names.items))
