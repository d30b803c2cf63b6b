use Rattle.std.proofs.Common.{◌≡◌, ◌++◌, take}
use Rattle.std.specs.List.{flat_map}
use Rattle.fb_tree.specs.Tree.{instance_tree}
use Rattle.fb_iface.specs.{Declarations.{space_duplicates}, Spaces.{parameter_names}}
use Rattle.fb_iface.proofs.repeats.report_in_instances.Given as goal

abbrev pub invariant-loop-instance : goal.invariant-loop-instance
invariant-loop-instance l =
    l.found.items ≡ l.initial.found.items ++ flat_map (λ i. space_duplicates (parameter_names (instance_tree i))) (take l.instance-index l.network.instances.items)
