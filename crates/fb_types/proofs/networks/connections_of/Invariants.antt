use Rattle.std.proofs.Common.{◌≡◌, map, take}
use Rattle.fb_types.specs.Networks.{plain_connection}
use Rattle.fb_types.proofs.networks.connections_of.Given as goal

abbrev pub invariant-loop-connection : goal.invariant-loop-connection
invariant-loop-connection l = l.found.items ≡ map plain_connection (take l.connection-index l.connections)
