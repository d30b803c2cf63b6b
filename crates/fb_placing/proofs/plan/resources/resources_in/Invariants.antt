use Rattle.std.proofs.Common.{◌≡◌, take, map}
use Rattle.fb_tree.specs.Tree.{device_tree}
use Rattle.fb_placing.specs.Resources.{resources_of}
use Rattle.fb_placing.proofs.plan.resources.resources_in.Given as goal

abbrev pub invariant-loop-device : goal.invariant-loop-device
invariant-loop-device l = l.paths.items ≡ resources_of (map device_tree (take l.device-index l.devices))
