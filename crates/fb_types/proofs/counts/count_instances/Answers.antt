-- One instance further.
use Rattle.std.proofs.{Common.{List, map, subst, take}, lemmas.List.{take_all}}
use Rattle.std.specs.BTreeMap.{get}
use Rattle.fb_tree.specs.{Text.Order.{name_cmp}, Tree.{InstanceTree, instance_tree}, declared.network.Instance.{Instance}}
use Rattle.fb_types.specs.Counts.{CountsOn, plain_instances}
use Rattle.fb_types.proofs.Counting.{instance_further, mapped_further}
use Rattle.fb_types.proofs.counts.count_instances.Goals as goal

pub loop-instance-preserved : goal.loop-instance-preserved
loop-instance-preserved c =
    let counts = get name_cmp c.args.counts.now in
    let xs = c.args.instances.now in
    let i = c.loop-instance.instance-index in
    let x = c.instance-item.result in
    let count = c.count_instance-count.result in
    subst (λ (l : List InstanceTree). CountsOn counts c.args.so_far (plain_instances l) count)
    (mapped_further instance_tree xs i x c.loop-instance-test.true c.instance-item.is)
    (instance_further counts c.args.so_far (map instance_tree (take i xs)) (instance_tree x) c.loop-instance.count count c.loop-instance.invariant c.count_instance-count.ensures)

pub returns : goal.returns
returns c =
    subst (λ (l : List Instance). CountsOn (get name_cmp c.args.counts.now) c.args.so_far (plain_instances (map instance_tree l)) c.loop-instance.count)
    (take_all c.loop-instance.instance-index c.args.instances.now c.loop-instance-test.false)
    c.loop-instance.invariant
