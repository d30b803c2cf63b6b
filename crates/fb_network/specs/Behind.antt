-- Links and borders by numbers, of the connections of a network that is being composed.
use Rattle.std.specs.{Prelude.{ℕ, ◌+◌, ◌≡◌, Bool, ◌&&◌, List, [], ◌∷◌, ◌++◌, Option, Some, None, slice_get, map, filter, flat_map}, List.{AllZip}}
use Rattle.std.specs.BTreeMap.{is_at}
use Rattle.fb_tree.specs.{Text.Order.{name_cmp}, declared.network.Sort.{Sort}, declared.interface.Side.{Side}}
use Rattle.fb_tree.specs.declared.interface.Side.TheVariants.{Input, Output}
use Rattle.fb_network.specs.{Sorts.{same_sort}, Places.{dotted}, declared.network.Port.{Port}, declared.network.InstanceKind.{InstanceKind}}
use Rattle.fb_network.specs.{declared.network.InstanceKind.TheVariants.{Block, Subapplication}, declared.network.End.{End}}
use Rattle.fb_network.specs.{declared.network.End.TheVariants.{Own, Of}, declared.network.Connection.{Connection}, declared.paths.place.Place.{Place}}
use Rattle.fb_network.specs.{declared.flat.entries.Join.{Join}, declared.flat.entries.Edge.{Edge}, declared.network.table.Standing.{Standing}, PlainPrefix.{PlainPrefix}}

abbrev pub edge_belongs : Sort → List ℕ → Edge → Bool
edge_belongs sort port e = same_sort e.sort sort && is_at (name_cmp e.port) port

abbrev pub border_places_at : Sort → List ℕ → List Edge → List Place
border_places_at sort port borders = map (λ e. e.place) (filter (edge_belongs sort port) borders)

abbrev pub places_of_kind : InstanceKind → Sort → List ℕ → Place → List Edge → List Place
places_of_kind Block sort port own borders = own ∷ []
places_of_kind Subapplication sort port own borders = border_places_at sort port borders

abbrev pub places_of_standing : Sort → List ℕ → Place → Standing → List Place
places_of_standing sort port own s = places_of_kind s.instance.kind sort port own s.borders.items

abbrev pub places_of_found : Sort → List ℕ → Place → Option Standing → List Place
places_of_found sort port own None = []
places_of_found sort port own (Some s) = places_of_standing sort port own s

-- the places of blocks to which an end of a connection leads; the end itself is at the place `own`
abbrev pub places_behind : (List ℕ → Option Standing) → Sort → Place → End → List Place
places_behind table sort own (Own port) = []
places_behind table sort own (Of name port) = places_of_found sort port own (table name)

abbrev pub joins_from : Sort → List Place → Place → List Join
joins_from sort tos from = map (λ to. record { sort = sort; from = from; to = to }) tos

abbrev pub join_pairs : Sort → List Place → List Place → List Join
join_pairs sort froms tos = flat_map (joins_from sort tos) froms

abbrev pub edges_of_end : Sort → End → List Place → List Edge
edges_of_end sort (Own port) places = map (λ place. record { sort = sort; port = port; place = place }) places
edges_of_end sort (Of name port) places = []

-- the prefix of a plug or socket, whose ends are the names of the adapter's ports
abbrev pub prefix_behind : List (List ℕ) → List ℕ → PlainPrefix
prefix_behind names text = record { start = dotted text []; ends = names }

abbrev pub IsMember : List PlainPrefix → List (List ℕ) → ℕ → List ℕ → Type 0
IsMember prefixes names number text = slice_get prefixes number ≡ Some (prefix_behind names text)

-- these numbers are those of the prefixes of these plugs or sockets
abbrev pub AreMembers : List PlainPrefix → List (List ℕ) → List ℕ → List (List ℕ) → Type 0
AreMembers prefixes names = AllZip (IsMember prefixes names)

abbrev pub join_on_side : Side → Port → Place → Place → Join
join_on_side Output port plug socket = record { sort = port.sort; from = plug; to = socket }
join_on_side Input port plug socket = record { sort = port.sort; from = socket; to = plug }

abbrev pub member_join : ℕ → ℕ → ℕ → Port → Join
member_join plug socket end port = join_on_side port.side port (record { prefix = plug; end = end }) (record { prefix = socket; end = end })

-- the links of an adapter's ports between the prefixes of a plug and of a socket, the first port's of that end
abbrev pub member_joins : ℕ → ℕ → ℕ → List Port → List Join
member_joins plug socket end [] = []
member_joins plug socket end (port ∷ ports) = member_join plug socket end port ∷ member_joins plug socket (end + 1) ports

abbrev pub plug_joins : List Port → List ℕ → ℕ → List Join
plug_joins ports sockets plug = flat_map (λ socket. member_joins plug socket 0 ports) sockets

abbrev pub adapter_joins : List Port → List ℕ → List ℕ → List Join
adapter_joins ports plugs sockets = flat_map (plug_joins ports sockets) plugs

-- the borders that a connection gives, whose ends are themselves at these places
abbrev pub connection_edges : (List ℕ → Option Standing) → Place → Place → Connection → List Edge
connection_edges table from to c =
    edges_of_end c.sort c.source (places_behind table c.sort to c.destination)
    ++ edges_of_end c.sort c.destination (places_behind table c.sort from c.source)
