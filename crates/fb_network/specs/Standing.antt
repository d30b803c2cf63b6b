-- What each name means in a network that is being composed.
use Rattle.std.specs.Prelude.{ℕ, ◌<◌, ◌≡◌, cond, List, [], ◌++◌, Option, Some, None, ⊤, length, map, flat_map, option_map, slice_get, slice_index_or}
use Rattle.std.specs.BTreeMap.{is_at}
use Rattle.fb_tree.specs.Text.Order.{name_cmp}
use Rattle.fb_network.specs.{declared.network.InstanceKind.{InstanceKind}, declared.network.InstanceKind.TheVariants.{Block, Subapplication}}
use Rattle.fb_network.specs.{declared.network.Instance.{Instance}, declared.network.End.{End}, declared.network.End.TheVariants.{Own, Of}}
use Rattle.fb_network.specs.{declared.flat.FlatBlock.{FlatBlock}, declared.flat.Link.{Link}, declared.flat.Border.{Border}, declared.paths.place.Place.{Place}}
use Rattle.fb_network.specs.{declared.flat.entries.Edge.{Edge}, declared.composition.draft.Draft.{Draft}, declared.network.table.Standing.{Standing}, Network.{instance_named, View}}
use Rattle.fb_network.specs.{Places.{dotted}, Plain.{PlainNetwork}, PlainFlat.{PlainFlat}, PlainPrefix.{PlainPrefix}, Ready.{Nets}}
use Rattle.fb_network.specs.{declared.network.Connection.{Connection}, Composed.{connection_borders, connection_links, inner_blocks, inner_links}}
use Rattle.fb_network.specs.{Laid.{path_at}, Reading.{AreEdges, AreJoins, AreLeaves, Grows, border_within}}

-- the text of an end of a connection
abbrev pub end_text : End → List ℕ
end_text (Own port) = port
end_text (Of name port) = dotted name port

-- the texts of a network's own: the names of its instances, then the sources and then the destinations of its connections
abbrev pub own_texts : PlainNetwork → List (List ℕ)
own_texts network =
    (map (λ i. i.name) network.instances ++ map (λ c. end_text c.source) network.connections) ++ map (λ c. end_text c.destination) network.connections

-- there is a prefix for the place, and the place has the text
pub record Says (prefixes : List PlainPrefix) (place : Place) (text : List ℕ) : Type 0 where
  pub in_range : place.prefix < length prefixes
  pub is : path_at prefixes place ≡ text

-- the place of that number among a network's own
abbrev pub own_place : ℕ → Place
own_place k = record { prefix = 0; end = k }

-- the first of a network's own texts are the names of the instances
abbrev pub AreNamed : List PlainPrefix → List Instance → Type 0
AreNamed prefixes instances = (k : ℕ) (i : Instance) → k < length instances → i ≡ slice_index_or instances k i → Says prefixes (own_place k) i.name

abbrev pub borders_of : List ℕ → Option PlainFlat → List Border
borders_of name None = []
borders_of name (Some net) = map (border_within name) net.borders

abbrev pub inner_borders_of_kind : InstanceKind → Nets → List ℕ → List ℕ → List Border
inner_borders_of_kind Block nets name type = []
inner_borders_of_kind Subapplication nets name type = borders_of name (nets type)

-- the borders of an instance, seen from outside
abbrev pub inner_borders : Nets → Instance → List Border
inner_borders nets i = inner_borders_of_kind i.kind nets i.name i.type_name

-- the draft also has what the instance holds; these are the instance's borders
pub record TakesInstance (nets : Nets) (old new : Draft) (i : Instance) (edges : List Edge) : Type 0 where
  pub grows : Grows old.prefixes new.prefixes
  pub blocks :
      (blocks : List FlatBlock) → AreLeaves old.prefixes old.leaves.items blocks
      → AreLeaves new.prefixes new.leaves.items (blocks ++ inner_blocks nets i)
  pub links :
      (links : List Link) → AreJoins old.prefixes old.joins.items links
      → AreJoins new.prefixes new.joins.items (links ++ inner_links nets i)
  pub borders : AreEdges new.prefixes edges (inner_borders nets i)

-- the table has the instance with its borders
abbrev pub StandsFor : List PlainPrefix → Nets → Option Standing → Option Instance → Type 0
StandsFor prefixes nets None None = ⊤
StandsFor prefixes nets None (Some i) = ⊥
StandsFor prefixes nets (Some s) None = ⊥
StandsFor prefixes nets (Some s) (Some i) = (s.instance ≡ i) × AreEdges prefixes s.borders.items (inner_borders nets i)

-- the table has the first instance of each name
abbrev pub IsTable : List PlainPrefix → Nets → (List ℕ → Option Standing) → List Instance → Type 0
IsTable prefixes nets table instances = (name : List ℕ) → StandsFor prefixes nets (table name) (instance_named instances name)

-- what a name means, or else the new one if it has that name
abbrev pub or_alone : Standing → List ℕ → Option Standing → Option Standing
or_alone s name None = cond (is_at (name_cmp s.instance.name) name) (Some s) None
or_alone s name (Some t) = Some t

abbrev pub or_instance : Instance → List ℕ → Option Instance → Option Instance
or_instance i name None = cond (is_at (name_cmp i.name) name) (Some i) None
or_instance i name (Some x) = Some x

-- the draft and the table have these instances
pub record HoldsInstances (nets : Nets) (old new : Draft) (table : List ℕ → Option Standing) (instances : List Instance) : Type 0 where
  pub grows : Grows old.prefixes new.prefixes
  pub blocks : AreLeaves new.prefixes new.leaves.items (flat_map (inner_blocks nets) instances)
  pub links : AreJoins new.prefixes new.joins.items (flat_map (inner_links nets) instances)
  pub standing : IsTable new.prefixes nets table instances

-- the table has the first instance of each name, without its borders
abbrev pub HasInstances : (List ℕ → Option Standing) → List Instance → Type 0
HasInstances table instances = (name : List ℕ) → option_map (λ (s : Standing). s.instance) (table name) ≡ instance_named instances name

-- the first prefix has the network's own texts
abbrev pub HasOwn : List PlainPrefix → PlainNetwork → Type 0
HasOwn prefixes network = slice_get prefixes 0 ≡ Some (record { start = []; ends = own_texts network })

-- the draft has these further links, and no other blocks
pub record AddsLinks (old new : Draft) (more : List Link) : Type 0 where
  pub grows : Grows old.prefixes new.prefixes
  pub same_blocks : new.leaves.items ≡ old.leaves.items
  pub links :
      (links : List Link) → AreJoins old.prefixes old.joins.items links
      → AreJoins new.prefixes new.joins.items (links ++ more)

-- if the table is that of the network's instances, the draft has the further links of connections
abbrev pub AddsConnections : View → PlainNetwork → (List ℕ → Option Standing) → Draft → Draft → List Connection → Type 0
AddsConnections view network table old new connections =
    (nets : Nets) → IsTable old.prefixes nets table network.instances
    → AddsLinks old new (flat_map (connection_links view network (instance_named network.instances) nets) connections)

-- if the table is that of the network's instances, the entries are the borders of connections
abbrev pub AreEdgesOf : PlainNetwork → (List ℕ → Option Standing) → List Edge → List Connection → Type 0
AreEdgesOf network table edges connections =
    (prefixes : List PlainPrefix) (nets : Nets) → IsTable prefixes nets table network.instances → HasOwn prefixes network
    → AreEdges prefixes edges (flat_map (connection_borders (instance_named network.instances) nets) connections)
