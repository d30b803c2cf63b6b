-- What holds of a network without faults (IEC 61499-1, 5.4: subapplication types; 5.5: adapters).
use Rattle.std.specs.{Prelude.{ℕ, ◌≡◌, List, [], ◌∷◌, Option, Some, None, Contains, ◌&&◌, find, option_map, option_and_then}, BTreeMap.{is_at}}
use Rattle.fb_tree.specs.{Text.Order.{name_cmp}, declared.network.Sort.{Sort}, declared.network.Sort.TheVariants.{Adapter}, declared.interface.Side.{Side}}
use Rattle.fb_tree.specs.declared.interface.Side.TheVariants.{Input, Output}
use Rattle.fb_network.specs.{Sorts.{same_sort}, declared.network.Port.{Port}, declared.network.Instance.{Instance}, declared.network.End.{End}}
use Rattle.fb_network.specs.{declared.network.End.TheVariants.{Own, Of}, Plain.{PlainNetwork}}
use Rattle.fb_network.specs.Network.{View, Place, place_of, instance_named, IsConnected, IsInner}

-- the first port of that sort and name
abbrev pub port_named : List Port → Sort → List ℕ → Option Port
port_named ports sort name = find (λ p. same_sort p.sort sort && is_at (name_cmp p.name) name) ports

-- the network of the type of an instance
abbrev pub type_of : View → PlainNetwork → List ℕ → Option PlainNetwork
type_of view network name = option_and_then (λ i. view i.type_name) (instance_named network.instances name)

-- the side of the port at a place, by the declaration of the type that has it
abbrev pub side_at : View → Sort → PlainNetwork → Place → Option Side
side_at view sort network [] = None
side_at view sort network (port ∷ []) = option_map (λ p. p.side) (port_named network.ports sort port)
side_at view sort network (name ∷ (x ∷ a)) =
    option_and_then (λ type. side_at view sort type (x ∷ a)) (type_of view network name)

-- the name of the adapter type of the plug or socket at a place
abbrev pub adapter_name_at : View → PlainNetwork → Place → Option (List ℕ)
adapter_name_at view network [] = None
adapter_name_at view network (port ∷ []) = option_and_then (λ p. p.adapter) (port_named network.ports Adapter port)
adapter_name_at view network (name ∷ (x ∷ a)) =
    option_and_then (λ type. adapter_name_at view type (x ∷ a)) (type_of view network name)

-- the adapter of the plug or socket at a place
abbrev pub adapter_at : View → PlainNetwork → Place → Option PlainNetwork
adapter_at view network place = option_and_then view (adapter_name_at view network place)

-- an end that a connection may leave: an own input, or an output of an instance
abbrev pub IsSource : View → Sort → PlainNetwork → End → Type 0
IsSource view sort network (Own port) = side_at view sort network (port ∷ []) ≡ Some Input
IsSource view sort network (Of name port) = side_at view sort network (name ∷ (port ∷ [])) ≡ Some Output

-- an end that a connection may reach: an own output, or an input of an instance
abbrev pub IsDestination : View → Sort → PlainNetwork → End → Type 0
IsDestination view sort network (Own port) = side_at view sort network (port ∷ []) ≡ Some Output
IsDestination view sort network (Of name port) = side_at view sort network (name ∷ (port ∷ [])) ≡ Some Input

-- the view has that type
pub record IsDeclared (view : View) (name : List ℕ) : Type 0 where
  pub type : PlainNetwork
  pub declared : view name ≡ Some type

-- each instance has its own name and a declared type, each connection has its ends on the right sides,
-- those of adapters join plugs and sockets of one adapter type, and none joins two own ports
pub record IsClean (view : View) (network : PlainNetwork) : Type 0 where
  pub named :
      (i : Instance) → Contains network.instances i → instance_named network.instances i.name ≡ Some i
  pub typed : (i : Instance) → Contains network.instances i → IsDeclared view i.type_name
  pub sources : (sort : Sort) (s d : End) → IsConnected network sort s d → IsSource view sort network s
  pub destinations : (sort : Sort) (s d : End) → IsConnected network sort s d → IsDestination view sort network d
  pub same_adapters :
      (s d : End) → IsConnected network Adapter s d
      → adapter_name_at view network (place_of s) ≡ adapter_name_at view network (place_of d)
  pub no_pass_through : (sort : Sort) (x y : List ℕ) → IsConnected network sort (Own x) (Own y) → ⊥

-- the network is clean, and so are those of its subapplication instances, of all depths
pub data IsCleanThroughout (view : View) : PlainNetwork → Type 0 where
  CleanThroughout :
      {network : PlainNetwork} → IsClean view network
      → ((name : List ℕ) (inner : PlainNetwork) → IsInner view network name inner → IsCleanThroughout view inner)
      → IsCleanThroughout view network
