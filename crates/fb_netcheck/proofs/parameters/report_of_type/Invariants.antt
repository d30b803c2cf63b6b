use Rattle.std.proofs.Common.{◌≡◌, ◌++◌, take}
use Rattle.std.specs.List.{flat_map}
use Rattle.fb_tree.specs.Tree.{parameter_tree}
use Rattle.fb_iface.specs.Names.{stands_for}
use Rattle.fb_netcheck.specs.Parameters.{parameter_faults}
use Rattle.fb_netcheck.proofs.parameters.report_of_type.Given as goal

abbrev pub invariant-loop-parameter : goal.invariant-loop-parameter
invariant-loop-parameter l =
    l.found.items ≡ l.initial.found.items ++ flat_map (λ p. parameter_faults (stands_for l.ports.variables p.name.name) (parameter_tree p)) (take l.parameter-index l.parameters)
