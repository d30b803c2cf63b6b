use Rattle.std.proofs.Common.{◌≡◌, ◌++◌, take}
use Rattle.fb_network.specs.Behind.{plug_joins}
use Rattle.fb_network.proofs.composition.members.push_plug_joins.Given as goal

abbrev pub invariant-loop-socket : goal.invariant-loop-socket
invariant-loop-socket l = l.joins.items ≡ l.fn.joins.items ++ plug_joins l.ports (take l.socket-index l.sockets) l.plug
