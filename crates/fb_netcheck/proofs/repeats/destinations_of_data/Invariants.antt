use Rattle.std.proofs.Common.{◌≡◌, take}
use Rattle.fb_netcheck.specs.Repeats.{data_destinations}
use Rattle.fb_netcheck.proofs.repeats.destinations_of_data.Given as goal

abbrev pub invariant-loop-connection : goal.invariant-loop-connection
invariant-loop-connection l = l.ends.items ≡ data_destinations (take l.connection-index l.connections)
