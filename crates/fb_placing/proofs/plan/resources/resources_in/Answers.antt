use Rattle.std.proofs.Common.{ℕ, List, ◌++◌, ◌∙◌, ap, map}
use Rattle.fb_tree.specs.{Tree.{device_tree, resource_tree}, declared.system.Resource.{Resource}}
use Rattle.fb_network.specs.Places.{dotted}
use Rattle.fb_placing.specs.Resources.{device_resources}
use Rattle.fb_placing.proofs.StepLemmas.{resources_step}
use Rattle.fb_placing.proofs.plan.resources.resources_in.Goals as goal

pub loop-device-preserved : goal.loop-device-preserved
loop-device-preserved c =
    let x = c.device-item.result in
    let before = c.loop-device.paths.items in
    c.in_ok-push_resources.ensures
    ∙ ap (λ (n : List ℕ). before ++ map (λ r. dotted n r.name.name) (map resource_tree c.as_slice.result.now)) c.name.ensures
    ∙ ap (λ (rs : List Resource). before ++ map (λ r. dotted x.name.name r.name.name) (map resource_tree rs)) c.as_slice.ensures.value
    ∙ ap (λ (l : List (List ℕ)). l ++ device_resources (device_tree x)) c.loop-device.invariant
    ∙ resources_step c.args.devices.now c.loop-device.device-index x c.loop-device-test.true c.device-item.is
