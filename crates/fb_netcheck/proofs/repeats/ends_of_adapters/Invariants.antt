use Rattle.std.proofs.Common.{◌≡◌, take}
use Rattle.fb_netcheck.specs.Repeats.{all_adapter_ends}
use Rattle.fb_netcheck.proofs.repeats.ends_of_adapters.Given as goal

abbrev pub invariant-loop-connection : goal.invariant-loop-connection
invariant-loop-connection l = l.ends.items ≡ all_adapter_ends (take l.connection-index l.connections)
