use Rattle.std.proofs.Common.{◌≡◌, drop, ◌++◌}
use Rattle.fb_jobs.specs.Kinds.{keys_of_kind}
use Rattle.fb_jobs.proofs.keys.kinds.add_keys.Given as goal

abbrev pub invariant-loop-name : goal.invariant-loop-name
invariant-loop-name l = l.keys.items ++ keys_of_kind (drop l.name-index l.names) l.kind ≡ l.initial.keys.items ++ keys_of_kind l.names l.kind
