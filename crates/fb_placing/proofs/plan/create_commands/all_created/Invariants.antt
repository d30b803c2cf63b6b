-- The blocks passed so far that have homes.
use Rattle.std.proofs.Common.{◌≡◌, map, take}
use Rattle.fb_placing.specs.{HomeTable.{home_by_path}, Created.{created_command}, PlacedCommands.{create_command}}
use Rattle.std.specs.List.{filter_map}
use Rattle.fb_placing.proofs.plan.create_commands.all_created.Given as goal

abbrev pub invariant-loop-block : goal.invariant-loop-block
invariant-loop-block l = map (created_command l.flat) l.created.items ≡ filter_map (create_command (home_by_path l.homes.by_path)) (take l.block l.flat.blocks)
