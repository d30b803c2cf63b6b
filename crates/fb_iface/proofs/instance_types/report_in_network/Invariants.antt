use Rattle.std.proofs.Common.{◌≡◌, ◌++◌, take}
use Rattle.std.specs.List.{flat_map}
use Rattle.fb_tree.specs.Tree.{instance_tree}
use Rattle.fb_iface.specs.Types.{instance_faults}
use Rattle.fb_iface.proofs.instance_types.report_in_network.Given as goal

abbrev pub invariant-loop-instance : goal.invariant-loop-instance
invariant-loop-instance g l =
    l.found.items ≡ l.initial.found.items ++ flat_map (λ i. instance_faults (g.V.View.sources l.view) (instance_tree i)) (take l.instance-index l.network.instances.items)
