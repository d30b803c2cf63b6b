use Rattle.std.proofs.Common.{◌≡◌, ◌++◌, take}
use Rattle.std.specs.List.{flat_map}
use Rattle.fb_tree.specs.Tree.{network_tree}
use Rattle.fb_iface.specs.Types.{instance_faults}
use Rattle.fb_iface.proofs.instance_types.report_in_applications.Given as goal

abbrev pub invariant-loop-application : goal.invariant-loop-application
invariant-loop-application g l =
    l.found.items ≡ l.initial.found.items ++ flat_map (λ a. flat_map (instance_faults (g.V.View.sources l.view)) (network_tree a.network).instances) (take l.application-index l.applications)
