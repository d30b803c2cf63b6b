-- The lists of links, borders and blocks that a network and the flat networks of its subapplications give.
use Rattle.std.specs.{Prelude.{ℕ, List, [], ◌∷◌, ◌++◌, Option, Some, None, Bool, ◌&&◌, filter, map, flat_map}, BTreeMap.{is_at}}
use Rattle.fb_tree.specs.{Text.Order.{name_cmp}, declared.network.Sort.{Sort}, declared.network.Sort.TheVariants.{Event, Data, Adapter}}
use Rattle.fb_tree.specs.{declared.interface.Side.{Side}, declared.interface.Side.TheVariants.{Input, Output}}
use Rattle.fb_network.specs.{Sorts.{same_sort}, Places.{dotted}, declared.network.Port.{Port}, declared.network.InstanceKind.{InstanceKind}}
use Rattle.fb_network.specs.{declared.network.InstanceKind.TheVariants.{Block, Subapplication}, declared.network.Instance.{Instance}}
use Rattle.fb_network.specs.{declared.network.End.{End}, declared.network.End.TheVariants.{Own, Of}, declared.network.Connection.{Connection}}
use Rattle.fb_network.specs.{Plain.{PlainNetwork}, PlainFlat.{PlainFlat}, declared.flat.Link.{Link}, declared.flat.Border.{Border}}
use Rattle.fb_network.specs.{declared.flat.FlatBlock.{FlatBlock}, Network.{View, place_of}, Clean.{adapter_at}, Ready.{Nets}}

-- the instances of a network by their names
abbrev pub Instances : Type 0
Instances = List ℕ → Option Instance

abbrev pub belongs : Sort → List ℕ → Border → Bool
belongs sort port b = same_sort b.sort sort && is_at (name_cmp b.port) port

-- the places of an own port's borders, seen from outside
abbrev pub border_places : Sort → List ℕ → List ℕ → List Border → List (List ℕ)
border_places sort name port borders = map (λ b. dotted name b.place) (filter (belongs sort port) borders)

abbrev pub places_of : Sort → List ℕ → List ℕ → Option PlainFlat → List (List ℕ)
places_of sort name port None = []
places_of sort name port (Some net) = border_places sort name port net.borders

abbrev pub behind_kind : InstanceKind → Nets → Sort → List ℕ → List ℕ → List ℕ → List (List ℕ)
behind_kind Block nets sort name port type = dotted name port ∷ []
behind_kind Subapplication nets sort name port type = places_of sort name port (nets type)

abbrev pub behind_instance : Nets → Sort → List ℕ → List ℕ → Instance → List (List ℕ)
behind_instance nets sort name port i = behind_kind i.kind nets sort name port i.type_name

abbrev pub behind_found : Nets → Sort → List ℕ → List ℕ → Option Instance → List (List ℕ)
behind_found nets sort name port None = []
behind_found nets sort name port (Some i) = behind_instance nets sort name port i

-- the places of blocks to which an end of a connection leads
abbrev pub behind_of : Instances → Nets → Sort → End → List (List ℕ)
behind_of instances nets sort (Own port) = []
behind_of instances nets sort (Of name port) = behind_found nets sort name port (instances name)

abbrev pub links_from : Sort → List (List ℕ) → List ℕ → List Link
links_from sort tos from = map (λ to. record { sort = sort; from = from; to = to }) tos

abbrev pub link_pairs : Sort → List (List ℕ) → List (List ℕ) → List Link
link_pairs sort froms tos = flat_map (links_from sort tos) froms

-- a link of an inner network, seen from outside
abbrev pub link_within : List ℕ → Link → Link
link_within name l = record { sort = l.sort; from = dotted name l.from; to = dotted name l.to }

abbrev pub links_of : List ℕ → Option PlainFlat → List Link
links_of name None = []
links_of name (Some net) = map (link_within name) net.links

abbrev pub inner_links_of_kind : InstanceKind → Nets → List ℕ → List ℕ → List Link
inner_links_of_kind Block nets name type = []
inner_links_of_kind Subapplication nets name type = links_of name (nets type)

abbrev pub inner_links : Nets → Instance → List Link
inner_links nets i = inner_links_of_kind i.kind nets i.name i.type_name

-- a block of an inner network, seen from outside
abbrev pub block_within : List ℕ → FlatBlock → FlatBlock
block_within name block = record { path = dotted name block.path; type_name = block.type_name }

abbrev pub blocks_of : List ℕ → Option PlainFlat → List FlatBlock
blocks_of name None = []
blocks_of name (Some net) = map (block_within name) net.blocks

abbrev pub blocks_of_kind : InstanceKind → Nets → List ℕ → List ℕ → List FlatBlock
blocks_of_kind Block nets name type = record { path = name; type_name = type } ∷ []
blocks_of_kind Subapplication nets name type = blocks_of name (nets type)

abbrev pub inner_blocks : Nets → Instance → List FlatBlock
inner_blocks nets i = blocks_of_kind i.kind nets i.name i.type_name

abbrev pub link_on_side : Side → Port → List ℕ → List ℕ → Link
link_on_side Output port plug socket = record { sort = port.sort; from = dotted plug port.name; to = dotted socket port.name }
link_on_side Input port plug socket = record { sort = port.sort; from = dotted socket port.name; to = dotted plug port.name }

-- the links of an adapter's ports between a plug and a socket
abbrev pub port_links : List Port → List ℕ → List ℕ → List Link
port_links ports plug socket = map (λ port. link_on_side port.side port plug socket) ports

abbrev pub plug_links : List Port → List (List ℕ) → List ℕ → List Link
plug_links ports sockets plug = flat_map (port_links ports plug) sockets

abbrev pub adapter_links : List Port → List (List ℕ) → List (List ℕ) → List Link
adapter_links ports plugs sockets = flat_map (plug_links ports sockets) plugs

abbrev pub links_of_adapter : Option PlainNetwork → List (List ℕ) → List (List ℕ) → List Link
links_of_adapter None plugs sockets = []
links_of_adapter (Some d) plugs sockets = adapter_links d.ports plugs sockets

abbrev pub links_of_sort : Sort → Option PlainNetwork → List (List ℕ) → List (List ℕ) → List Link
links_of_sort Event adapter froms tos = link_pairs Event froms tos
links_of_sort Data adapter froms tos = link_pairs Data froms tos
links_of_sort Adapter adapter froms tos = links_of_adapter adapter froms tos

-- the links that a connection of the network itself gives
abbrev pub connection_links : View → PlainNetwork → Instances → Nets → Connection → List Link
connection_links view network instances nets c =
    links_of_sort c.sort (adapter_at view network (place_of c.source))
    (behind_of instances nets c.sort c.source) (behind_of instances nets c.sort c.destination)

abbrev pub end_borders : Sort → End → List (List ℕ) → List Border
end_borders sort (Own port) places = map (λ place. record { sort = sort; port = port; place = place }) places
end_borders sort (Of name port) places = []

-- the borders that a connection of the network itself gives
abbrev pub connection_borders : Instances → Nets → Connection → List Border
connection_borders instances nets c =
    end_borders c.sort c.source (behind_of instances nets c.sort c.destination)
    ++ end_borders c.sort c.destination (behind_of instances nets c.sort c.source)

abbrev pub composed_links : View → PlainNetwork → Instances → Nets → List Link
composed_links view network instances nets =
    flat_map (inner_links nets) network.instances
    ++ flat_map (connection_links view network instances nets) network.connections

abbrev pub composed_borders : PlainNetwork → Instances → Nets → List Border
composed_borders network instances nets = flat_map (connection_borders instances nets) network.connections

abbrev pub composed_blocks : PlainNetwork → Nets → List FlatBlock
composed_blocks network nets = flat_map (inner_blocks nets) network.instances
