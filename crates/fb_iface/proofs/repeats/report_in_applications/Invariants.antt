use Rattle.std.proofs.Common.{◌≡◌, ◌++◌, take}
use Rattle.std.specs.List.{flat_map}
use Rattle.fb_tree.specs.Tree.{network_tree}
use Rattle.fb_iface.specs.{Declarations.{space_duplicates}, Spaces.{network_spaces}}
use Rattle.fb_iface.proofs.repeats.report_in_applications.Given as goal

abbrev pub invariant-loop-application : goal.invariant-loop-application
invariant-loop-application l =
    l.found.items ≡ l.initial.found.items ++ flat_map (λ a. flat_map space_duplicates (network_spaces (network_tree a.network))) (take l.application-index l.applications)
