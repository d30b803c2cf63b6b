-- The commands of the commands passed so far.
use Rattle.std.proofs.Common.{◌≡◌, ◌++◌, map, take}
use Rattle.fb_network.specs.PlainFlat.{PlainFlat}
use Rattle.fb_placing.specs.{CommandIndexes.{plain_command}, SystemCommands.{without_place}}
use Rattle.fb_placing.proofs.plan.assigned_commands.push_writes.Given as goal

abbrev pub invariant-loop-i : goal.invariant-loop-i
invariant-loop-i l =
    (flat : PlainFlat)
    → map (plain_command flat (map (λ line. line.command) l.placed)) l.commands.items
    ≡ map (plain_command flat (map (λ line. line.command) l.placed)) l.fn.commands.items ++ map without_place (take l.i l.placed)
