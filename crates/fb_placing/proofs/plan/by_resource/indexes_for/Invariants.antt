-- The commands passed so far that are for the resource.
use Rattle.std.proofs.Common.{◌≡◌, map, take}
use Rattle.std.specs.{Prelude.{filter}, Str.{bytes_eq}}
use Rattle.fb_placing.proofs.plan.by_resource.indexes_for.Given as goal

abbrev pub invariant-loop-command : goal.invariant-loop-command
invariant-loop-command l = l.items.items ≡ map (λ o. o.index) (filter (λ o. bytes_eq l.name o.resource.now) (take l.command-index l.commands))
