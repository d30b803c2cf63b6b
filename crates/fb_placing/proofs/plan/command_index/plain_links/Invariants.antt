use Rattle.std.proofs.Common.{◌≡◌, take, map}
use Rattle.fb_network.specs.Numbered.{link_numbered}
use Rattle.fb_placing.proofs.plan.command_index.plain_links.Given as goal

abbrev pub invariant-loop-number : goal.invariant-loop-number
invariant-loop-number l = l.links.items ≡ map (link_numbered l.flat) (take l.number-index l.numbers)
