use Rattle.std.proofs.Common.{◌≡◌, take, map}
use Rattle.fb_network.specs.Laid.{block_at}
use Rattle.fb_network.proofs.flat.entries.plain_blocks.Given as goal

abbrev pub invariant-loop-leaf : goal.invariant-loop-leaf
invariant-loop-leaf l = l.blocks.items ≡ map (block_at l.prefixes) (take l.leaf-index l.leaves)
