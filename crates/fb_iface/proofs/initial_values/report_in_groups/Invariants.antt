use Rattle.std.proofs.Common.{◌≡◌, ◌++◌, take}
use Rattle.std.specs.List.{flat_map}
use Rattle.fb_tree.specs.Tree.{variables_tree}
use Rattle.fb_iface.specs.Literals.{initial_faults}
use Rattle.fb_iface.proofs.initial_values.report_in_groups.Given as goal

abbrev pub invariant-loop-group : goal.invariant-loop-group
invariant-loop-group l =
    l.found.items ≡ l.initial.found.items ++ flat_map (λ v. initial_faults (variables_tree v)) (take l.group-index l.groups)
