use Rattle.std.proofs.Common.{◌≡◌, [], map, take}
use Rattle.fb_iface.specs.Names.{with_firsts}
use Rattle.fb_iface.proofs.ports.instance_table.Given as goal

abbrev pub invariant-loop-instance : goal.invariant-loop-instance
invariant-loop-instance l =
    l.table.entries ≡ with_firsts [] (map (λ i. (i.name.name, record { role = i.role; type_name = i.type_name })) (take l.instance-index l.network.instances.items))
