use Rattle.std.proofs.Common.{◌≡◌, ◌++◌, take, map}
use Rattle.fb_network.specs.Standing.{end_text}
use Rattle.fb_network.proofs.network.own.push_destinations.Given as goal

abbrev pub invariant-loop-connection : goal.invariant-loop-connection
invariant-loop-connection l = l.texts.items ≡ l.fn.texts.items ++ map (λ c. end_text c.destination) (take l.connection-index l.connections)
