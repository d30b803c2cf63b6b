-- Ends of connections that are ends of an earlier one.
use Rattle.std.specs.{Prelude.{List, [], ◌∷◌, map, Option, Some, None}, List.{flat_map}}
use Rattle.fb_tree.specs.{Text.declared.name.NameUse.{NameUse}, declared.network.Connection.{Connection}, declared.network.End.{End}}
use Rattle.fb_tree.specs.declared.network.Sort.{Sort}
use Rattle.fb_tree.specs.declared.network.Sort.TheVariants as sorts
use Rattle.fb_iface.specs.{declared.code.Code.TheVariants.{SecondSource, SecondAdapter}, declared.fault.Fault.{Fault}}
use Rattle.fb_netcheck.specs.{Ends.{end_span}, Paths.{Path, PathUse, repeated_faults}}

abbrev pub path_named : NameUse → Option NameUse → Path
path_named name None = name.name ∷ []
path_named name (Some port) = name.name ∷ port.name ∷ []

-- the names of an end, with its place
abbrev pub end_path : End → PathUse
end_path end = record { names = path_named end.name end.port; span = end_span end }

abbrev pub data_destination : Sort → End → List End
data_destination sorts.Data destination = destination ∷ []
data_destination sorts.Event destination = []
data_destination sorts.Adapter destination = []

abbrev pub adapter_ends : Sort → End → End → List End
adapter_ends sorts.Adapter source destination = source ∷ destination ∷ []
adapter_ends sorts.Event source destination = []
adapter_ends sorts.Data source destination = []

-- the destinations of data connections
abbrev pub data_destinations : List Connection → List End
data_destinations connections = flat_map (λ c. data_destination c.sort c.destination) connections

-- the ends of adapter connections, each source before its destination
abbrev pub all_adapter_ends : List Connection → List End
all_adapter_ends connections = flat_map (λ c. adapter_ends c.sort c.source c.destination) connections

-- a data connection ends where an earlier one does
abbrev pub second_sources : List Connection → List Fault
second_sources connections = repeated_faults SecondSource (map end_path (data_destinations connections))

-- an end of an adapter connection is one of an earlier connection, or the source of its own
abbrev pub second_adapters : List Connection → List Fault
second_adapters connections = repeated_faults SecondAdapter (map end_path (all_adapter_ends connections))
