use Rattle.std.proofs.Common.{◌≡◌, take, filter, is_none}
use Rattle.std.specs.BTreeMap as tree
use Rattle.fb_jobs.specs.KeyOrder.{key_cmp}
use Rattle.fb_entries.proofs.renewal.without_entry.Given as goal

abbrev pub invariant-loop-key : goal.invariant-loop-key
invariant-loop-key l = l.fresh.items ≡ filter (λ key. is_none (tree.get key_cmp l.entries key)) (take l.key-index l.keys)
