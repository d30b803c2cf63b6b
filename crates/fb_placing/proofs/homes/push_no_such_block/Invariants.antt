use Rattle.std.proofs.Common.{◌≡◌, ◌++◌, map}
use Rattle.fb_placing.specs.declared.homes.Misplaced.TheVariants.{NoSuchBlock}
use Rattle.fb_placing.proofs.homes.push_no_such_block.Given as goal

abbrev pub invariant-loop-path : goal.invariant-loop-path
invariant-loop-path l = l.found.items ≡ l.fn.found.items ++ map (λ p. NoSuchBlock p) l.yielded
