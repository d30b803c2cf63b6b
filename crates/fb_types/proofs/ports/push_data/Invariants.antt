use Rattle.std.proofs.Common.{◌≡◌, ◌++◌, map}
use Rattle.std.specs.List.{filter}
use Rattle.fb_iface.specs.Sides.{is_data_on}
use Rattle.fb_types.specs.Ports.{plain_data}
use Rattle.fb_types.proofs.ports.push_data.Given as goal

abbrev pub invariant-loop-name : goal.invariant-loop-name
invariant-loop-name l =
    l.ports.items ++ map (plain_data l.side) (map (λ e. (e.0, e.1.type_use)) (filter (λ e. is_data_on l.side e.1.section) l.name-iterator))
    ≡ l.initial.ports.items ++ map (plain_data l.side) (map (λ e. (e.0, e.1.type_use)) (filter (λ e. is_data_on l.side e.1.section) l.names.variables))
