use Rattle.std.proofs.Common.{◌≡◌, take, map}
use Rattle.fb_network.specs.Laid.{link_at}
use Rattle.fb_network.proofs.flat.entries.plain_links.Given as goal

abbrev pub invariant-loop-join : goal.invariant-loop-join
invariant-loop-join l = l.links.items ≡ map (link_at l.prefixes) (take l.join-index l.joins)
