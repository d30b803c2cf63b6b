-- The draft and the table have the instances passed so far.
use Rattle.std.proofs.Common.{take}
use Rattle.std.specs.BTreeMap.{get}
use Rattle.fb_tree.specs.Text.Order.{name_cmp}
use Rattle.fb_network.specs.Standing.{HoldsInstances}
use Rattle.fb_network.proofs.composition.instances.take_instances.Given as goal

abbrev pub invariant-loop-place : goal.invariant-loop-place
invariant-loop-place g l = HoldsInstances (g.N.Nets.nets l.nets) l.fn.draft l.draft (get name_cmp l.table) (take l.place l.instances)
