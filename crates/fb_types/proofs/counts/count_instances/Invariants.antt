-- The instances passed so far are counted.
use Rattle.std.proofs.Common.{map, take}
use Rattle.std.specs.BTreeMap.{get}
use Rattle.fb_tree.specs.{Text.Order.{name_cmp}, Tree.{instance_tree}}
use Rattle.fb_types.specs.Counts.{CountsOn, plain_instances}
use Rattle.fb_types.proofs.counts.count_instances.Given as goal

abbrev pub invariant-loop-instance : goal.invariant-loop-instance
invariant-loop-instance l =
    CountsOn (get name_cmp l.counts) l.fn.so_far (plain_instances (map instance_tree (take l.instance-index l.instances))) l.count
