-- The blocks that are made.
use Rattle.fb_network.specs.{Numbered.{block_numbered}, PlainFlat.{PlainFlat}}
use Rattle.fb_placing.specs.{PlacedCommands.{create_text}, declared.plan.create_commands.Created.{Created}}
use Rattle.fb_placing.specs.declared.plan.write_commands.PlacedCommand.{PlacedCommand}

-- the line that makes a block
abbrev pub created_command : PlainFlat → Created → PlacedCommand
created_command flat c = record {
  place = (block_numbered flat c.block).path;
  command = create_text (block_numbered flat c.block).path (block_numbered flat c.block).type_name;
  resource = c.resource.now;
}
