use Rattle.std.proofs.Common.{◌≡◌, map, take}
use Rattle.fb_tree.specs.Tree.{application_tree}
use Rattle.fb_types.specs.Applications.{plain_application}
use Rattle.fb_types.proofs.systems.applications_in.Given as goal

abbrev pub invariant-loop-application : goal.invariant-loop-application
invariant-loop-application l = l.found.items ≡ map (λ a. plain_application (application_tree a)) (take l.application-index l.applications)
