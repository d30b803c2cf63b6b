-- The commands of the resources passed so far.
use Rattle.std.proofs.Common.{ℕ, ◌≡◌, ◌++◌, List, map, take}
use Rattle.fb_network.specs.PlainFlat.{PlainFlat}
use Rattle.fb_placing.specs.{CommandIndexes.{plain_command}, SystemCommands.{start_command}}
use Rattle.fb_placing.proofs.plan.assigned_commands.push_starts.Given as goal

abbrev pub invariant-loop-resource : goal.invariant-loop-resource
invariant-loop-resource l =
    (flat : PlainFlat) (writes : List (List ℕ))
    → map (plain_command flat writes) l.commands.items ≡ map (plain_command flat writes) l.fn.commands.items ++ map start_command (take l.resource-index l.resources)
