use Rattle.std.proofs.{Common.{◌≡◌, ◌≤◌, ◌++◌, ◌∙◌, append-nil, ap, length, map, sym, arith}, lemmas.List.{length-map}, lemmas.Result.{on_ok_weaker}}
use Rattle.std.specs.List.{flat_map}
use Rattle.fb_tree.specs.{Tree.{instance_tree, network_tree}, declared.network.Instance.{Instance}}
use Rattle.fb_iface.specs.{Declarations.{space_duplicates}, Fault.{faults_at}, Names.{first_ones}, Ports.{instances_in}, Spaces.{parameter_names}}
use Rattle.fb_iface.specs.declared.code.Code.TheVariants.{Duplicate}
use Rattle.fb_iface.proofs.{CountLemmas.{instances_as_named, instances_named, none_again}, TreeLemmas.{network_joined}}
use Rattle.fb_iface.proofs.repeats.report_in_own_network.Goals as goal

pub returns-else-len : goal.returns-else-len
returns-else-len c =
    let network = c.args.network.now in
    let instances = network.instances.items in
    let names = map (λ (i : Instance). i.name) instances in
    let old = c.args.found.now.items in
    let declared = instances_in (network_tree network) in
    let many : length names ≤ length (first_ones declared) = omega (arith, length-map instances (λ (i : Instance). i.name), c.if-len.false, c.len.ensures.len, c.len-2.ensures, ap length c.instances.ensures, ap length c.requires) in
    let none : old ≡ old ++ space_duplicates names = sym (append-nil old) ∙ ap (λ l. old ++ faults_at Duplicate l) (sym (none_again declared names (instances_named (network_tree network) ∙ instances_as_named instances) many)) in
    on_ok_weaker c.report_in_instances.result
    (λ e. e
    ∙ ap (λ l. l ++ flat_map (λ i. space_duplicates (parameter_names (instance_tree i))) instances) none
    ∙ network_joined old network)
    c.report_in_instances.ensures
