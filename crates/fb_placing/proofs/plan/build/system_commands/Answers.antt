-- The four kinds of commands, one behind the other.
use Rattle.std.proofs.Common.{map, ap}
use Rattle.fb_placing.specs.{HomeTable.{home_by_path}, CommandIndexes.{plain_command}, PlacedCommands.{create_commands}}
use Rattle.fb_placing.specs.SystemCommands.{connection_commands, without_place, start_command}
use Rattle.fb_placing.proofs.IndexLemmas.{four_behind}
use Rattle.fb_placing.proofs.plan.build.system_commands.Goals as goal

pub returns-clause-commands : goal.returns-clause-commands
returns-clause-commands c =
    let flat = c.args.flat.now in
    let homes = home_by_path c.args.homes.now.by_path in
    let placed = c.args.placed.now in
    let writes = map (λ command. command.command) placed in
    let say = map (plain_command flat writes) in
    four_behind (say c.new-commands.result.items) (say c.push_creates.new.commands.items) (say c.push_writes.new.commands.items) (say c.push_links.new.commands.items) (say c.push_starts.new.commands.items)
    (map without_place (create_commands homes flat.blocks)) (map without_place placed) (connection_commands homes flat.links) (map start_command c.args.resources.now)
    (ap say c.new-commands.ensures.items) (c.in_ok-push_creates.ensures writes) (c.in_ok-push_writes.ensures flat) (c.in_ok-push_links.ensures.commands writes) (c.in_ok-push_starts.ensures flat writes)
