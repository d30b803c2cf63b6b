use Rattle.std.proofs.Common.{◌≡◌, ◌++◌, map}
use Rattle.std.specs.List.{filter}
use Rattle.fb_iface.specs.Ports.{same_role}
use Rattle.fb_types.specs.Ports.{plain_adapter}
use Rattle.fb_types.proofs.ports.push_adapters.Given as goal

abbrev pub invariant-loop-name : goal.invariant-loop-name
invariant-loop-name l =
    l.ports.items ++ map (plain_adapter l.side) (map (λ e. (e.0, e.1.type_name)) (filter (λ e. same_role e.1.role l.role) l.name-iterator))
    ≡ l.initial.ports.items ++ map (plain_adapter l.side) (map (λ e. (e.0, e.1.type_name)) (filter (λ e. same_role e.1.role l.role) l.names.instances))
