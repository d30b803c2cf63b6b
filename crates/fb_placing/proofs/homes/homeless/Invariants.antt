use Rattle.std.proofs.Common.{◌≡◌, take}
use Rattle.std.specs.HashMap.{get_by_text}
use Rattle.fb_placing.specs.Homes.{homeless}
use Rattle.fb_placing.proofs.homes.homeless.Given as goal

abbrev pub invariant-loop-block : goal.invariant-loop-block
invariant-loop-block l = l.paths.items ≡ homeless (get_by_text l.table) (take l.block-index l.blocks)
