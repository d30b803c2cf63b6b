use Rattle.std.proofs.Common.{◌≡◌, ◌++◌, map}
use Rattle.std.specs.List.{filter}
use Rattle.fb_iface.specs.Ports.{same_side}
use Rattle.fb_types.specs.Ports.{plain_event}
use Rattle.fb_types.proofs.ports.push_events.Given as goal

abbrev pub invariant-loop-name : goal.invariant-loop-name
invariant-loop-name l =
    l.ports.items ++ map (plain_event l.side) (map (λ e. (e.0, e.1.type_name)) (filter (λ e. same_side e.1.side l.side) l.name-iterator))
    ≡ l.initial.ports.items ++ map (plain_event l.side) (map (λ e. (e.0, e.1.type_name)) (filter (λ e. same_side e.1.side l.side) l.names.events))
