use Rattle.std.proofs.Common.{◌≡◌, take, map}
use Rattle.fb_bench.specs.Founds.{said}
use Rattle.fb_bench.proofs.found.shares_of.Given as goal

-- the nets so far are shared
abbrev pub invariant-loop-hint : goal.invariant-loop-hint
invariant-loop-hint l = map said l.shares.items ≡ map said (take l.hint-index l.found)
