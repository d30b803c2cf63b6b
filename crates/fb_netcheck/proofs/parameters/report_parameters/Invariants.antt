use Rattle.std.proofs.Common.{◌≡◌, ◌++◌, take}
use Rattle.std.specs.List.{flat_map}
use Rattle.fb_tree.specs.Tree.{instance_tree}
use Rattle.fb_iface.specs.ScopeTypes.{scope_in}
use Rattle.fb_netcheck.specs.Parameters.{instance_parameters}
use Rattle.fb_netcheck.proofs.parameters.report_parameters.Given as goal

abbrev pub invariant-loop-instance : goal.invariant-loop-instance
invariant-loop-instance l =
    l.found.items ≡ l.initial.found.items ++ flat_map (λ i. instance_parameters (scope_in l.scope) (instance_tree i)) (take l.instance-index l.instances)
