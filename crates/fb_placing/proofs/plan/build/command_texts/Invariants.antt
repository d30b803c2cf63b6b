use Rattle.std.proofs.Common.{◌≡◌, map}
use Rattle.fb_placing.proofs.plan.build.command_texts.Given as goal

abbrev pub invariant-loop-command : goal.invariant-loop-command
invariant-loop-command l = l.commands.items ≡ map (λ l. l.command) l.yielded
