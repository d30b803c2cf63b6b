use Rattle.std.proofs.Common.{◌≡◌, ◌++◌, take, map}
use Rattle.fb_tree.specs.Tree.{parameter_tree}
use Rattle.fb_placing.specs.PlacedCommands.{write_command}
use Rattle.fb_placing.proofs.plan.write_commands.push_write_commands.Given as goal

abbrev pub invariant-loop-parameter : goal.invariant-loop-parameter
invariant-loop-parameter l = l.placed.items ≡ l.fn.placed.items ++ map (write_command l.text l.home) (map parameter_tree (take l.parameter-index l.parameters))
