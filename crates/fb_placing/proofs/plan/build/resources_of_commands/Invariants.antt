-- The resources passed so far.
use Rattle.std.proofs.Common.{ℕ, ◌≡◌, List, map, take}
use Rattle.fb_network.specs.PlainFlat.{PlainFlat}
use Rattle.fb_placing.specs.{CommandIndexes.{plain_command, plain_resource}, Resources.{resource_plans}}
use Rattle.fb_placing.proofs.plan.build.resources_of_commands.Given as goal

abbrev pub invariant-loop-name : goal.invariant-loop-name
invariant-loop-name l =
    (flat : PlainFlat) (writes : List (List ℕ))
    → map (plain_resource flat writes) l.all.items ≡ resource_plans (map (plain_command flat writes) l.commands) (take l.name-index l.names)
