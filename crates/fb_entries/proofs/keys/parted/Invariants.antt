use Rattle.std.proofs.Common.{◌≡◌, take, filter, not}
use Rattle.fb_jobs.specs.Keys.{has_key}
use Rattle.fb_entries.proofs.keys.parted.Given as goal

abbrev pub invariant-loop-key : goal.invariant-loop-key
invariant-loop-key l =
    (l.present.items ≡ filter (has_key l.library) (take l.key-index l.keys))
    × (l.absent.items ≡ filter (λ key. not (has_key l.library key)) (take l.key-index l.keys))
