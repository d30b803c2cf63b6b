use Rattle.std.proofs.Common.{◌≡◌, take, count_by, is_none}
use Rattle.fb_jobs.proofs.keys.read_list.absent_count.Given as goal

abbrev pub invariant-loop-version : goal.invariant-loop-version
invariant-loop-version l = l.count ≡ count_by is_none (take l.version-index l.versions)
