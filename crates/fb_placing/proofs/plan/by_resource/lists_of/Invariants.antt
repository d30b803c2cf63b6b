-- The items of the commands passed so far, and the place that was found last.
use Rattle.std.proofs.Common.{◌≡◌, length, take}
use Rattle.fb_placing.specs.ByResource.{AreListed, IsFirst, indexes_at}
use Rattle.fb_placing.proofs.plan.by_resource.lists_of.Given as goal

abbrev pub invariant-loop-command : goal.invariant-loop-command
invariant-loop-command l = record {
  listed : AreListed l.names (indexes_at l.lists.items) (take l.command-index l.commands);
  count : length l.lists.items ≡ length l.names;
  first : IsFirst l.names l.last;
}
