use Rattle.std.proofs.Common.{◌≡◌, take}
use Rattle.std.specs.List.{flat_map}
use Rattle.fb_jobs.specs.Kinds.{keys_of_kind, names_for}
use Rattle.fb_jobs.proofs.keys.kinds.keys_near_and_far.Given as goal

abbrev pub invariant-loop-kind : goal.invariant-loop-kind
invariant-loop-kind l = l.keys.items ≡ flat_map (λ kind. keys_of_kind (names_for l.nears l.fars kind) kind) (take l.kind-index l.kind-items)
