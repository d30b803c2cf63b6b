use Rattle.std.proofs.Common.{◌≡◌, [], take}
use Rattle.std.specs.List.{flat_map}
use Rattle.fb_tree.specs.Tree.{variables_tree}
use Rattle.fb_iface.specs.{Names.{with_firsts}, Ports.{variables_together}}
use Rattle.fb_iface.proofs.ports.variable_table.Given as goal

abbrev pub invariant-loop-group : goal.invariant-loop-group
invariant-loop-group l =
    l.table.entries ≡ with_firsts [] (flat_map (λ v. variables_together (variables_tree v)) (take l.group-index l.groups))
