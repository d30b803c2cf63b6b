-- The applications passed so far are counted.
use Rattle.std.proofs.Common.{map, take}
use Rattle.std.specs.BTreeMap.{get}
use Rattle.fb_tree.specs.{Text.Order.{name_cmp}, Tree.{application_tree}}
use Rattle.fb_types.specs.{Applications.{plain_application}, Counts.{CountsAll}, Units.{instances_in}}
use Rattle.fb_types.proofs.counts.count_applications.Given as goal

abbrev pub invariant-loop-application : goal.invariant-loop-application
invariant-loop-application l =
    CountsAll (get name_cmp l.counts) (instances_in (map (λ a. plain_application (application_tree a)) (take l.application-index l.applications))) l.count
