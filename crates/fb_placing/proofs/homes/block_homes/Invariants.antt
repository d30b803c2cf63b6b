use Rattle.std.proofs.Common.{◌≡◌, take}
use Rattle.std.specs.HashMap.{get_by_text}
use Rattle.fb_placing.specs.Homes.{block_homes}
use Rattle.fb_placing.proofs.homes.block_homes.Given as goal

abbrev pub invariant-loop-block : goal.invariant-loop-block
invariant-loop-block l = l.homes.items ≡ block_homes (get_by_text l.table) (take l.block l.flat.blocks)
