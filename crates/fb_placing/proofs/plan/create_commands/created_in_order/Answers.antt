-- What is left of the blocks are the commands in order.
use Rattle.std.proofs.Common.{◌∙◌, ap}
use Rattle.fb_tree.specs.Text.Order.{in_order}
use Rattle.fb_placing.specs.{Created.{created_command}, PlacedCommands.{command_cmp}}
use Rattle.fb_placing.proofs.CreateLemmas.{commands_in_order}
use Rattle.fb_placing.proofs.plan.create_commands.created_in_order.Goals as goal

pub returns : goal.returns
returns c =
    commands_in_order (created_command c.args.flat.now) c.in_ok-created.created.items c.sort_created.new.created.items c.in_ok-sort_created.ensures
    ∙ ap (in_order command_cmp) c.in_ok-created.ensures
