use Rattle.std.proofs.Common.{◌≡◌, ℕ, List, ◌+◌, ◌<◌, ◌&&◌, ◌||◌, [], ◌∷◌, ◌++◌, ap, sym, ◌∙◌, cond, length, map, not, take, false, true, is_some, arith}
use Rattle.std.proofs.{lemmas.Grind.{common_steps}, lemmas.List.{map-append}}
use Rattle.std.specs.BTreeSet.{contains}
use Rattle.fb_tree.proofs.Text.Tests.{not_true, not_false}
use Rattle.fb_tree.specs.{Text.Order.{name_cmp}, Text.declared.name.NameUse.{NameUse}, Tree.{DeviceTree, ResourceTree, device_tree, resource_tree}}
use Rattle.fb_tree.specs.declared.system.Resource.{Resource}
use Rattle.fb_netcheck.specs.Iface.Names.{has_name, is_same, stands_for}
use Rattle.fb_netcheck.proofs.Iface.TreeLemmas.{same_items}
use Rattle.fb_faults.specs.{Mappings.{resources_in}, Pairs.{pair_cmp}}
use Rattle.fb_faults.proofs.{MappingLemmas.{among, among-new, among-old, seen-next}, mappings.resources_of.Goals.{then-branch+in_ok-add_resources, else-branch}}
use Rattle.fb_faults.proofs.mappings.resources_of.Goals as goal

pub loop-device-preserved : goal.loop-device-preserved
loop-device-preserved c =
    let devices = c.args.devices.now in
    let i = c.loop-device.device-index in
    let x = c.device-item.result in
    let pair_of : DeviceTree → List ℕ × List NameUse = λ d. (d.name.name, map (λ (r : ResourceTree). r.name) d.resources) in
    let before = resources_in (map device_tree (take i devices)) in
    let own = pair_of (device_tree x) in
    let within : i < length devices = omega arith in
    let more : take (i + 1) devices ≡ take i devices ++ x ∷ [] = grind (arith, common_steps) in
    let declared : resources_in (map device_tree (take (i + 1) devices)) ≡ before ++ own ∷ [] = ap (λ l. resources_in (map device_tree l)) more ∙ ap (map pair_of) (map-append device_tree (take i devices) (x ∷ [])) ∙ map-append pair_of (map device_tree (take i devices)) (device_tree x ∷ []) in
    let known : c.in_ok-insert.field-0 ≡ not (is_some (stands_for before x.name.name)) = c.in_ok-insert.ensures.added ∙ ap (λ n. not (contains name_cmp c.loop-device.seen n)) c.name-name.ensures ∙ ap not (c.loop-device.invariant.noted x.name.name) in
    record {
      noted = λ q. c.in_ok-insert.ensures.updates.0 q ∙ (λ k. cond (is_same (c.name-name.ensures k) q) true (c.loop-device.invariant.noted q k)) ∙ seen-next before own q ∙ ap (λ l. is_some (stands_for l q)) (sym declared);
      kept = elim c.if-branch.branch [
        | then-branch+in_ok-add_resources w ↦
            let absent : is_some (stands_for before x.name.name) ≡ false = not_true (is_some (stands_for before x.name.name)) (sym known ∙ w.if-branch.true) in
            let names : map (λ (r : Resource). r.name) w.as_slice.result.now ≡ own.1 = ap (map (λ (r : Resource). r.name)) w.as_slice.ensures.value ∙ sym (same_items resource_tree (λ (r : ResourceTree). r.name) x.resources.items) in
            λ device resource.
            ap (λ s. contains pair_cmp s (device, resource)) w.resources-is
            ∙ w.in_ok-add_resources.ensures device resource
            ∙ (λ k. c.loop-device.invariant.kept device resource k || (is_same (c.name-name.ensures k) device && has_name (names k) resource))
            ∙ among-new before own absent device resource
            ∙ ap (λ l. among l device resource) (sym declared)
        | else-branch w ↦
            let there : is_some (stands_for before x.name.name) ≡ true = not_false (is_some (stands_for before x.name.name)) (sym known ∙ w.if-branch.false) in
            λ device resource.
            ap (λ s. contains pair_cmp s (device, resource)) w.resources-is
            ∙ c.loop-device.invariant.kept device resource
            ∙ among-old before own there device resource
            ∙ ap (λ l. among l device resource) (sym declared)
      ];
    }
