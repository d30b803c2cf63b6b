use Rattle.std.proofs.Common.{◌≡◌, ◌++◌, map, filter}
use Rattle.fb_entries.specs.Marking.{is_unkept, keys_with}
use Rattle.fb_entries.proofs.entries.pending_keys.Given as goal

abbrev pub invariant-loop-key : goal.invariant-loop-key
invariant-loop-key l = l.keys.items ++ map (λ e. e.0) (filter (λ e. is_unkept e.1) l.key-iterator) ≡ keys_with is_unkept l.entries.entries
