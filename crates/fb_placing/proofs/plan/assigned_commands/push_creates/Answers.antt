-- The blocks are those that have homes, in order.
use Rattle.std.proofs.{Common.{List, ◌++◌, map, ap, ◌∙◌}, lemmas.Result.{on_ok_weaker}}
use Rattle.fb_placing.specs.{Created.{created_command}, CommandIndexes.{plain_command}, SystemCommands.{without_place}}
use Rattle.fb_placing.specs.{declared.plan.create_commands.Created.{Created}, declared.plan.write_commands.PlacedCommand.{PlacedCommand}}
use Rattle.fb_placing.proofs.plan.assigned_commands.push_creates.Goals as goal

pub returns : goal.returns
returns c =
    let flat = c.args.flat.now in
    on_ok_weaker c.push_created.result
    (λ same writes.
    same flat writes
    ∙ ap (λ (l : List Created). map (plain_command flat writes) c.args.commands.now.items ++ map without_place (map (created_command flat) l)) c.deref.ensures.value
    ∙ ap (λ (l : List PlacedCommand). map (plain_command flat writes) c.args.commands.now.items ++ map without_place l) c.in_ok-created.ensures)
    c.push_created.ensures
