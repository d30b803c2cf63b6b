use Rattle.std.proofs.{Common.{◌≡◌, List, ◌++◌, ◌∙◌, ap, map, sym}, lemmas.List.Folds.{flat_map-map}, lemmas.Result.{on_ok_weaker}}
use Rattle.std.specs.List.{flat_map}
use Rattle.fb_tree.specs.{Tree.{instance_tree}, declared.network.Instance.{Instance}}
use Rattle.fb_iface.specs.declared.fault.Fault.{Fault}
use Rattle.fb_netcheck.specs.{Connections.{connection_faults}, Parameters.{instance_parameters}, Repeats.{second_adapters, second_sources}, Settings.{place_in}}
use Rattle.fb_netcheck.specs.Types.{joined_types}
use Rattle.fb_netcheck.proofs.JoinLemmas.{five_joined}
use Rattle.fb_netcheck.proofs.networks.report_network.Goals as goal

pub returns : goal.returns
returns g c =
    let here = place_in c.args.here.now in
    let connections = c.args.network.now.connections.items in
    let instances = c.args.network.now.instances.items in
    let old = c.args.found.now.items in
    let sides : List Fault = flat_map (connection_faults here) connections in
    let types : List Fault = flat_map (joined_types (g.V.View.sources c.args.view.now) here) connections in
    let slice : c.as_slice-connections.result.now ≡ connections = c.as_slice-connections.ensures.value in
    let second : c.report_connections.new.found.items ≡ (old ++ sides) ++ types = c.in_ok-report_connections.ensures ∙ (λ i. (old ++ flat_map (connection_faults here) (slice i)) ++ flat_map (joined_types (g.V.View.sources c.args.view.now) here) (slice i)) in
    let third : c.report_second_sources.new.found.items ≡ ((old ++ sides) ++ types) ++ second_sources connections = c.in_ok-report_second_sources.ensures ∙ (λ i. second i ++ second_sources (slice i)) in
    let fourth : c.report_second_adapters.new.found.items ≡ (((old ++ sides) ++ types) ++ second_sources connections) ++ second_adapters connections = c.in_ok-report_second_adapters.ensures ∙ (λ i. third i ++ second_adapters (slice i)) in
    on_ok_weaker c.report_parameters.result
    (λ e. e
    ∙ (λ i. fourth i ++ flat_map (λ (x : Instance). instance_parameters here.scope (instance_tree x)) (c.as_slice.ensures.value i))
    ∙ ap (λ l. ((((old ++ sides) ++ types) ++ second_sources connections) ++ second_adapters connections) ++ l) (sym (flat_map-map (instance_parameters here.scope) instance_tree instances))
    ∙ five_joined old sides types (second_sources connections) (second_adapters connections) (flat_map (instance_parameters here.scope) (map instance_tree instances)))
    c.report_parameters.ensures
