use Rattle.std.proofs.Common.{◌≡◌, take, map}
use Rattle.fb_network.proofs.composition.members.port_names.Given as goal

abbrev pub invariant-loop-port : goal.invariant-loop-port
invariant-loop-port l = l.names.items ≡ map (λ port. port.name) (take l.port-index l.ports)
