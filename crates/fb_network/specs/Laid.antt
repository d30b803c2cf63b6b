-- Flat networks by numbers.
use Rattle.std.specs.{Prelude.{ℕ, ◌+◌, ◌<◌, List, [], ◌++◌, Option, Some, None, slice_get, map}, List.{All}}
use Rattle.fb_network.specs.{Places.{dotted}, PlainFlat.{PlainFlat}, PlainPrefix.{PlainPrefix}, declared.flat.FlatBlock.{FlatBlock}, declared.flat.Link.{Link}}
use Rattle.fb_network.specs.{declared.flat.Border.{Border}, declared.paths.place.Place.{Place}, declared.flat.entries.Leaf.{Leaf}, declared.flat.entries.Join.{Join}}
use Rattle.fb_network.specs.declared.flat.entries.Edge.{Edge}

abbrev pub text_or_nothing : Option (List ℕ) → List ℕ
text_or_nothing None = []
text_or_nothing (Some text) = text

-- the path of an end of a prefix
abbrev pub path_of_end : PlainPrefix → ℕ → List ℕ
path_of_end prefix end = prefix.start ++ text_or_nothing (slice_get prefix.ends end)

abbrev pub path_in : Option PlainPrefix → ℕ → List ℕ
path_in None end = []
path_in (Some prefix) end = path_of_end prefix end

-- the path at a place
abbrev pub path_at : List PlainPrefix → Place → List ℕ
path_at prefixes place = path_in (slice_get prefixes place.prefix) place.end

abbrev pub block_at : List PlainPrefix → Leaf → FlatBlock
block_at prefixes leaf = record { path = path_at prefixes leaf.place; type_name = leaf.type_name }

abbrev pub link_at : List PlainPrefix → Join → Link
link_at prefixes join = record { sort = join.sort; from = path_at prefixes join.from; to = path_at prefixes join.to }

abbrev pub border_at : List PlainPrefix → Edge → Border
border_at prefixes edge = record { sort = edge.sort; port = edge.port; place = path_at prefixes edge.place }

abbrev pub flat_at : List PlainPrefix → List Leaf → List Join → List Edge → PlainFlat
flat_at prefixes leaves joins edges = record { blocks = map (block_at prefixes) leaves; links = map (link_at prefixes) joins; borders = map (border_at prefixes) edges }

-- each place that is named has one of this number of prefixes
abbrev pub IsLeafBelow : ℕ → Leaf → Type 0
IsLeafBelow count leaf = leaf.place.prefix < count

abbrev pub IsJoinBelow : ℕ → Join → Type 0
IsJoinBelow count join = (join.from.prefix < count) × (join.to.prefix < count)

abbrev pub IsEdgeBelow : ℕ → Edge → Type 0
IsEdgeBelow count edge = edge.place.prefix < count

pub record IsLaid (count : ℕ) (leaves : List Leaf) (joins : List Join) (edges : List Edge) : Type 0 where
  pub leaves_below : All (IsLeafBelow count) leaves
  pub joins_below : All (IsJoinBelow count) joins
  pub edges_below : All (IsEdgeBelow count) edges

-- the prefix inside the instance of that name
abbrev pub prefix_within : List ℕ → PlainPrefix → PlainPrefix
prefix_within name prefix = record { start = dotted name prefix.start; ends = prefix.ends }

-- the place after this number is added to the number of its prefix
abbrev pub place_moved : ℕ → Place → Place
place_moved by place = record { prefix = place.prefix + by; end = place.end }

abbrev pub leaf_moved : ℕ → Leaf → Leaf
leaf_moved by leaf = record { place = place_moved by leaf.place; type_name = leaf.type_name }

abbrev pub join_moved : ℕ → Join → Join
join_moved by join = record { sort = join.sort; from = place_moved by join.from; to = place_moved by join.to }

abbrev pub edge_moved : ℕ → Edge → Edge
edge_moved by edge = record { sort = edge.sort; port = edge.port; place = place_moved by edge.place }
