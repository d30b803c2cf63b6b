-- The ports of a type as plain values.
use Rattle.std.specs.Prelude.{ℕ, List, ◌++◌, map, Option, Some, None}
use Rattle.fb_tree.specs.{Text.declared.name.NameUse.{NameUse}, declared.interface.Side.{Side}, declared.interface.Side.TheVariants.{Input, Output}}
use Rattle.fb_tree.specs.{declared.interface.TypeUse.{TypeUse}, declared.network.Role.TheVariants.{Plug, Socket}}
use Rattle.fb_tree.specs.declared.network.Sort.TheVariants.{Event, Data, Adapter}
use Rattle.fb_iface.specs.Ports.{Meanings, data_on, events_on, instances_as}
use Rattle.fb_network.specs.declared.network.Port.{Port}

abbrev pub plain_event : Side → List ℕ × Option NameUse → Port
plain_event side event = record { sort = Event; side = side; name = event.0; adapter = None }

abbrev pub plain_data : Side → List ℕ × TypeUse → Port
plain_data side variable = record { sort = Data; side = side; name = variable.0; adapter = None }

-- a plug or a socket, with the name of its adapter type
abbrev pub plain_adapter : Side → List ℕ × NameUse → Port
plain_adapter side adapter = record { sort = Adapter; side = side; name = adapter.0; adapter = Some adapter.1.name }

-- Events and data, then plugs, which are outputs, and sockets, which are inputs; each name means its first declaration.
-- Internal variables are no ports.
abbrev pub plain_ports : Meanings → List Port
plain_ports m =
    map (plain_event Input) (events_on Input m)
    ++ map (plain_event Output) (events_on Output m)
    ++ map (plain_data Input) (data_on Input m)
    ++ map (plain_data Output) (data_on Output m)
    ++ map (plain_adapter Output) (instances_as Plug m)
    ++ map (plain_adapter Input) (instances_as Socket m)
