use Rattle.std.proofs.Common.{◌≡◌, ℕ, List, true}
use Rattle.std.specs.BTreeSet as set
use Rattle.fb_text.specs.Order.{name_cmp}
use Rattle.fb_jobs.specs.{Cached.{is_flagged}, Values.{all_seen}}
use Rattle.fb_jobs.proofs.kept.cached.flagged_names.Given as goal

abbrev pub invariant-loop-place : goal.invariant-loop-place
invariant-loop-place l = (name : List ℕ) → set.contains name_cmp l.names name ≡ true → is_flagged (all_seen l.reads) l.flags name ≡ true
