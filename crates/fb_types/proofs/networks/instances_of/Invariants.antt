use Rattle.std.proofs.Common.{◌≡◌, take}
use Rattle.std.specs.List.{filter_map}
use Rattle.fb_tree.specs.Tree.{instance_tree}
use Rattle.fb_types.specs.Networks.{plain_instance}
use Rattle.fb_types.proofs.networks.instances_of.Given as goal

abbrev pub invariant-loop-instance : goal.invariant-loop-instance
invariant-loop-instance l = l.found.items ≡ filter_map (λ i. plain_instance (instance_tree i)) (take l.instance-index l.instances)
