use Rattle.std.proofs.Common.{◌≡◌, take, filter, not}
use Rattle.std.specs.BTreeSet as set
use Rattle.fb_jobs.specs.KeyOrder.{key_cmp}
use Rattle.fb_entries.proofs.renewal.not_in.Given as goal

abbrev pub invariant-loop-key : goal.invariant-loop-key
invariant-loop-key l = l.others.items ≡ filter (λ key. not (set.contains key_cmp l.keys key)) (take l.key-index l.all)
