-- The net of a unit, computed from the texts.
use Rattle.std.specs.Prelude.{◌≡◌, ℕ, zero, suc, Bool, true, if◌then◌else◌, nat_lt, List, [], ◌∷◌, ◌++◌, length, map, filter, Option, Some, None, ◌↔◌}
use Rattle.std.specs.List.{flat_map, list_any}
use Rattle.fb_types.specs.{Text.Order.{in_order}, Tree.Tree.{DeclTree, block_type, adapter_type, subapplication_type, system_configuration, structure_type}}
use Rattle.fb_types.specs.{Library.View.{Sources, parts_at, tree_at}, Library.Local.{AgreeFar}, Library.Seen.{has_name}}
use Rattle.fb_types.specs.{Network.declared.flat.count.TheConstants.{INSTANCE_LIMIT}, Network.declared.network.InstanceKind.{InstanceKind}}
use Rattle.fb_types.specs.{Network.declared.network.InstanceKind.TheVariants.{Block, Subapplication}, Network.declared.network.Instance.{Instance}}
use Rattle.fb_types.specs.{Network.Plain.{PlainNetwork}, Network.PlainFlat.{PlainFlat}, Network.LinkOrder.{link_cmp, border_cmp}}
use Rattle.fb_types.specs.{Network.Network.{View, instance_named}, Network.Instances.{Held, held_as, held_within}}
use Rattle.fb_types.specs.{Network.Composed.{composed_blocks, composed_borders, composed_links}, Network.Ready.{Nets}}
use Rattle.fb_types.specs.{Network.SystemFlat.{application_blocks, application_links}, Network.declared.flat.application.FlatApplication.{FlatApplication}}
use Rattle.fb_types.specs.{Applications.{applications_of}, ByName.{declared}, Networks.{network_of}, declared.systems.Application.{Application}}
use Rattle.fb_flatten.specs.{Blocking.{is_blocking, is_part_among}, Net.{PlainNet, blocked, recursive, too_large, flat_net, IsNet}, Far.{far_of, part_far_of}}
pub use Rattle.fb_types.specs.Units.{HasNet, has_net_tree, has_net_in, own_instances}

-- ---- flat networks

-- the flat network of a network, composed of those of its subapplications
abbrev pub composed : View → Nets → PlainNetwork → PlainFlat
composed view nets network =
    record {
      blocks = composed_blocks network nets;
      links = in_order link_cmp (composed_links view network (instance_named network.instances) nets);
      borders = in_order border_cmp (composed_borders network (instance_named network.instances) nets);
    }

abbrev pub composed_at : View → Nets → Option PlainNetwork → Option PlainFlat
composed_at view nets None = None
composed_at view nets (Some network) = Some (composed view nets network)

-- the flat networks of types that hold subapplications through fewer depths than this
unfoldable pub flats_of : ℕ → View → Nets
flats_of zero view name = None
flats_of (suc depth) view name = composed_at view (flats_of depth view) (view name)

abbrev pub flat_application : View → Nets → Application → FlatApplication
flat_application view nets a = record { name = a.name; flat = composed view nets a.network }

-- the flat network of a system of these applications
abbrev pub joined : List FlatApplication → PlainFlat
joined flats =
    record {
      blocks = flat_map application_blocks flats;
      links = in_order link_cmp (flat_map application_links flats);
      borders = [];
    }

abbrev pub flat_of_tree : View → Nets → DeclTree → PlainFlat
flat_of_tree view nets (block_type d) = composed view nets (network_of (block_type d))
flat_of_tree view nets (adapter_type d) = composed view nets (network_of (adapter_type d))
flat_of_tree view nets (subapplication_type d) = composed view nets (network_of (subapplication_type d))
flat_of_tree view nets (system_configuration s) = joined (map (flat_application view nets) (applications_of (system_configuration s)))
flat_of_tree view nets (structure_type s) = composed view nets (network_of (structure_type s))

-- ---- instances

abbrev pub held_inside : (List ℕ → List Held) → InstanceKind → Instance → List Held
held_inside inner Block i = []
held_inside inner Subapplication i = map (held_within i.name) (inner i.type_name)

-- the instances of all depths, where `inner` are those of the types
abbrev pub held_by : (List ℕ → List Held) → List Instance → List Held
held_by inner [] = []
held_by inner (i ∷ rest) = held_as i ∷ (held_inside inner i.kind i ++ held_by inner rest)

abbrev pub held_at : (List ℕ → List Held) → Option PlainNetwork → List Held
held_at inner None = []
held_at inner (Some network) = held_by inner network.instances

-- the instances of types that hold subapplications through fewer depths than this
unfoldable pub held_of : ℕ → View → List ℕ → List Held
held_of zero view name = []
held_of (suc depth) view name = held_at (held_of depth view) (view name)

-- ---- nets

-- whether the type reaches itself by parts
abbrev pub is_recursive : Sources → List ℕ → Bool
is_recursive sources name = list_any (λ inner. has_name (part_far_of sources inner) name) (parts_at sources name)

abbrev pub sized_net : List Held → PlainFlat → PlainNet
sized_net held flat = if nat_lt INSTANCE_LIMIT (length held) then too_large else flat_net flat

-- the net of a unit that rests on no recursive type, and so on none through more depths than it rests on names
abbrev pub finite_net : ℕ → Sources → DeclTree → PlainNet
finite_net depth sources tree =
    let view = declared sources in
    sized_net (held_by (held_of depth view) (own_instances tree)) (flat_of_tree view (flats_of depth view) tree)

abbrev pub first_net : List (List ℕ) → List (List ℕ) → PlainNet → PlainNet
first_net [] [] net = net
first_net [] (x ∷ xs) net = recursive (x ∷ xs)
first_net (x ∷ xs) others net = blocked (x ∷ xs)

-- what keeps the unit from having a flat network, or the flat network
abbrev pub net_of_tree : Sources → List ℕ → DeclTree → PlainNet
net_of_tree sources unit tree =
    let names = far_of sources unit in
    first_net (filter (is_blocking sources (is_part_among sources names)) names) (filter (is_recursive sources) names) (finite_net (length names) sources tree)

-- whether a unit has a net is known from its own text
abbrev pub HasNetByText : Type 0
HasNetByText = (sources : Sources) (unit : List ℕ) → (has_net_in (tree_at sources unit) ≡ true) ↔ HasNet sources unit

abbrev pub net_in : Sources → List ℕ → Option DeclTree → Option PlainNet
net_in sources unit None = None
net_in sources unit (Some tree) = if has_net_tree tree then Some (net_of_tree sources unit tree) else None

-- the net of a subapplication or a system; other units have none
unfoldable pub net_at : Sources → List ℕ → Option PlainNet
net_at sources unit = net_in sources unit (tree_at sources unit)

-- this is the one net of the unit
abbrev pub NetAtIsNet : Type 0
NetAtIsNet = (sources : Sources) (unit : List ℕ) (net : PlainNet) → (net_at sources unit ≡ Some net) ↔ (HasNet sources unit × IsNet sources unit net)

-- this net depends only on the texts that the unit rests on
abbrev pub NetAtIsLocal : Type 0
NetAtIsLocal = (a b : Sources) (unit : List ℕ) → AgreeFar unit a b → net_at a unit ≡ net_at b unit
