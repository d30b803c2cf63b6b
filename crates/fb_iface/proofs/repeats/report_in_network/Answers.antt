use Rattle.std.proofs.{Common.{◌≡◌, ◌++◌, ◌∙◌, ap, map}, lemmas.Result.{on_ok_weaker}}
use Rattle.std.specs.List.{flat_map}
use Rattle.fb_tree.specs.Tree.{instance_tree}
use Rattle.fb_iface.specs.{Declarations.{space_duplicates}, Spaces.{parameter_names}}
use Rattle.fb_iface.proofs.TreeLemmas.{network_joined}
use Rattle.fb_iface.proofs.repeats.report_in_network.Goals as goal

pub returns : goal.returns
returns c =
    let network = c.args.network.now in
    let old = c.args.found.now.items in
    let first : c.report_repeated.new.found.items ≡ old ++ space_duplicates (map (λ i. i.name) network.instances.items) = c.in_ok-report_repeated.ensures ∙ ap (λ l. old ++ space_duplicates (map (λ i. i.name) l)) c.as_slice.ensures.value in
    on_ok_weaker c.report_in_instances.result
    (λ e. e ∙ ap (λ l. l ++ flat_map (λ i. space_duplicates (parameter_names (instance_tree i))) network.instances.items) first ∙ network_joined old network)
    c.report_in_instances.ensures
