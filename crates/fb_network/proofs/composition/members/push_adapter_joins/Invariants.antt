use Rattle.std.proofs.Common.{◌≡◌, ◌++◌, take}
use Rattle.fb_network.specs.Behind.{adapter_joins}
use Rattle.fb_network.proofs.composition.members.push_adapter_joins.Given as goal

abbrev pub invariant-loop-plug : goal.invariant-loop-plug
invariant-loop-plug l = l.joins.items ≡ l.fn.joins.items ++ adapter_joins l.ports (take l.plug-index l.plugs) l.sockets
