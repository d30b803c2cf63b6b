use Rattle.std.proofs.Common.{◌≡◌, take}
use Rattle.fb_jobs.specs.Reads.{read_names}
use Rattle.fb_jobs.proofs.keys.reads.names_of.Given as goal

abbrev pub invariant-loop-place : goal.invariant-loop-place
invariant-loop-place l = l.names.items ≡ read_names (take l.place l.texts)
