use Rattle.std.proofs.Common.{◌≡◌, ◌++◌, take, map}
use Rattle.fb_network.specs.Laid.{leaf_moved}
use Rattle.fb_network.proofs.flat.entries.push_leaves_moved.Given as goal

abbrev pub invariant-loop-leaf : goal.invariant-loop-leaf
invariant-loop-leaf l = l.leaves.items ≡ l.fn.leaves.items ++ map (leaf_moved l.by) (take l.leaf-index l.inner)
