-- One application further.
use Rattle.std.proofs.{Common.{List, map, subst, take}, lemmas.List.{take_all}}
use Rattle.std.specs.BTreeMap.{get}
use Rattle.fb_tree.specs.{Text.Order.{name_cmp}, Tree.{application_tree, instance_tree}, declared.network.Instance.{Instance}}
use Rattle.fb_tree.specs.declared.system.Application.{Application as ApplicationUse}
use Rattle.fb_types.specs.{Applications.{plain_application}, Counts.{CountsAll, CountsOn, plain_instances}, Units.{instances_in}}
use Rattle.fb_types.specs.declared.systems.Application.{Application}
use Rattle.fb_types.proofs.Counting.{application_further, count_nothing, mapped_further}
use Rattle.fb_types.proofs.counts.count_applications.Goals as goal

pub loop-application-init : goal.loop-application-init
loop-application-init c = λ view all. count_nothing

pub loop-application-preserved : goal.loop-application-preserved
loop-application-preserved c =
    let counts = get name_cmp c.args.counts.now in
    let of_tree = λ (a : ApplicationUse). plain_application (application_tree a) in
    let xs = c.args.applications.now in
    let i = c.loop-application.application-index in
    let x = c.application-item.result in
    let count = c.count_instances-count.result in
    subst (λ (l : List Application). CountsAll counts (instances_in l) count)
    (mapped_further of_tree xs i x c.loop-application-test.true c.application-item.is)
    (application_further counts (map of_tree (take i xs)) (of_tree x) c.loop-application.count count c.loop-application.invariant
    (subst (λ (l : List Instance). CountsOn counts c.loop-application.count (plain_instances (map instance_tree l)) count) c.as_slice.ensures.value c.count_instances-count.ensures))

pub returns : goal.returns
returns c =
    subst (λ (l : List ApplicationUse). CountsAll (get name_cmp c.args.counts.now) (instances_in (map (λ a. plain_application (application_tree a)) l)) c.loop-application.count)
    (take_all c.loop-application.application-index c.args.applications.now c.loop-application-test.false)
    c.loop-application.invariant
