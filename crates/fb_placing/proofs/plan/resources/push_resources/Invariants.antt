use Rattle.std.proofs.Common.{◌≡◌, ◌++◌, take, map}
use Rattle.fb_tree.specs.Tree.{resource_tree}
use Rattle.fb_network.specs.Places.{dotted}
use Rattle.fb_placing.proofs.plan.resources.push_resources.Given as goal

abbrev pub invariant-loop-resource : goal.invariant-loop-resource
invariant-loop-resource l = l.paths.items ≡ l.fn.paths.items ++ map (λ r. dotted l.device r.name.name) (map resource_tree (take l.resource-index l.resources))
