use Rattle.std.proofs.{Common.{◌≡◌, ℕ, List, ◌++◌, ◌∙◌, ap, append_assoc, map, sym}, lemmas.List.Folds.{flat_map-map}, lemmas.Result.{on_ok_weaker}}
use Rattle.std.specs.{BTreeSet.{contains}, List.{flat_map}}
use Rattle.fb_tree.specs.{Tree.{MappingTree, device_tree, mapping_tree}, declared.system.Mapping.{Mapping}}
use Rattle.fb_netcheck.proofs.Iface.TreeLemmas.{same_items}
use Rattle.fb_netcheck.specs.{Iface.declared.code.Code.TheVariants.{MappedTwice}, Paths.{path_of_names, repeated_faults}}
use Rattle.fb_faults.specs.{Mappings.{has_resource, home_faults, resource_faults, second_mappings}, Pairs.{pair_cmp}}
use Rattle.fb_faults.proofs.mappings.report_mappings.Goals as goal

pub returns : goal.returns
returns c =
    let mappings = c.args.system.now.mappings.items in
    let devices = map device_tree c.args.system.now.devices.items in
    let old = c.args.found.now.items in
    let slice : c.as_slice-mappings.result.now ≡ mappings = c.as_slice-mappings.ensures.value in
    let paths : map (λ (m : Mapping). path_of_names m.path.items) c.as_slice-mappings.result.now ≡ map (λ (m : MappingTree). path_of_names m.path) (map mapping_tree mappings) = ap (map (λ (m : Mapping). path_of_names m.path.items)) slice ∙ sym (same_items mapping_tree (λ (m : MappingTree). path_of_names m.path) mappings) in
    let first : c.report_repeated.new.found.items ≡ old ++ second_mappings (map mapping_tree mappings) = c.in_ok-report_repeated.ensures ∙ ap (λ l. old ++ repeated_faults MappedTwice l) paths in
    let known : (device resource : List ℕ) → contains pair_cmp c.in_ok-resources.resources (device, resource) ≡ has_resource devices device resource = λ device resource. c.in_ok-resources.ensures device resource ∙ ap (λ l. has_resource (map device_tree l) device resource) c.as_slice.ensures.value in
    on_ok_weaker c.report_homes.result
    (λ e. e
    ∙ (λ k. first k ++ flat_map (λ (m : Mapping). home_faults (known m.device.name m.resource.name k) (mapping_tree m)) (slice k))
    ∙ ap (λ l. (old ++ second_mappings (map mapping_tree mappings)) ++ l) (sym (flat_map-map (resource_faults devices) mapping_tree mappings))
    ∙ append_assoc old (second_mappings (map mapping_tree mappings)) (flat_map (resource_faults devices) (map mapping_tree mappings)))
    c.report_homes.ensures
