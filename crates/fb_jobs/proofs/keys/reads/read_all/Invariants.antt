use Rattle.std.proofs.Common.{◌≡◌, take, All}
use Rattle.fb_jobs.specs.{Reads.{reads_under}, Values.{all_seen, IsOwn}}
use Rattle.fb_jobs.proofs.keys.reads.read_all.Given as goal

abbrev pub invariant-loop-name : goal.invariant-loop-name
invariant-loop-name l =
    (all_seen l.reads.items ≡ reads_under l.library (take l.name-index l.names)) × All IsOwn l.reads.items × (l.texts ≡ all_seen l.reads.items)
