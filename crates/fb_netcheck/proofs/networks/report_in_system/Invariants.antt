use Rattle.std.proofs.Common.{◌≡◌, ◌++◌, take}
use Rattle.std.specs.List.{flat_map}
use Rattle.fb_tree.specs.Tree.{application_tree}
use Rattle.fb_netcheck.specs.Networks.{application_network}
use Rattle.fb_netcheck.proofs.networks.report_in_system.Given as goal

abbrev pub invariant-loop-application : goal.invariant-loop-application
invariant-loop-application g l =
    l.found.items ≡ l.initial.found.items ++ flat_map (λ a. application_network (g.V.View.sources l.view) l.unit (application_tree a)) (take l.application-index l.system.applications.items)
