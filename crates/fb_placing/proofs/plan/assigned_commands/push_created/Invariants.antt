-- The commands of the blocks passed so far.
use Rattle.std.proofs.Common.{ℕ, ◌≡◌, ◌++◌, List, map, take}
use Rattle.fb_network.specs.PlainFlat.{PlainFlat}
use Rattle.fb_placing.specs.{Created.{created_command}, CommandIndexes.{plain_command}, SystemCommands.{without_place}}
use Rattle.fb_placing.proofs.plan.assigned_commands.push_created.Given as goal

abbrev pub invariant-loop-it : goal.invariant-loop-it
invariant-loop-it l =
    (flat : PlainFlat) (writes : List (List ℕ))
    → map (plain_command flat writes) l.commands.items ≡ map (plain_command flat writes) l.fn.commands.items ++ map without_place (map (created_command flat) (take l.it-index l.created))
