-- The chains of the links and borders of a flat unit: which connections they pass, and how they are composed of chains of inner networks
-- (IEC 61499-1, 5.4: subapplication types).
use Rattle.fb_laws.specs.Common.{Sort, Sources, flat_net, net_at, PlainFlat}
use Rattle.std.specs.Prelude.{◌≡◌, ℕ, Bool, true, false, List, [], ◌∷◌, ◌++◌, Some, Contains, ◌⊎◌, filter, map}
use mathlib.Core.Logic.{inl, inr}
use Rattle.fb_tree.specs.declared.kinds.UnitKind.TheVariants.{Subapplication, System}
use Rattle.fb_types.specs.{Network.Network.{View, Place, place_of, IsInner, IsConnected, Step, Holds, Within, Chain, One, More, IsLink, IsBorder}, Network.Clean.{IsCleanThroughout}}
use Rattle.fb_types.specs.{Network.Plain.{PlainNetwork}, declared.systems.Application.{Application}, Network.FlatNet.{IsFlat}, Network.Printed.{printed}, Network.declared.network.End.{End}}
use Rattle.fb_types.specs.{Network.declared.network.End.TheVariants.{Of}, ByName.{applications_at, declared, kind_at}}

-- A connection that a chain passes: one of the network itself, or one inside the subapplication instance of that name.
pub data Passed : Type 0 where
  own : End → End → Passed
  inside : List ℕ → Passed → Passed

abbrev pub is_own : Passed → Bool
is_own (own source destination) = true
is_own (inside name passed) = false

abbrev pub passed_at : {view : View} {sort : Sort} {network : PlainNetwork} {a b : Place} → Step view sort network a b → Passed
passed_at (Holds source destination connected from to) = own source destination
passed_at (Within inner name a b is_inner from to step) = inside name (passed_at step)

-- the connections that a chain passes, one after the other
abbrev pub passed_by : {view : View} {sort : Sort} {network : PlainNetwork} {a b : Place} → Chain view sort network a b → List Passed
passed_by (One step) = passed_at step ∷ []
passed_by (More place step border rest) = passed_at step ∷ passed_by rest

-- All that is passed is inside one subapplication instance, and is what the chain of a link of the inner network passes.
pub data StaysInside (view : View) (sort : Sort) (network : PlainNetwork) : Place → Place → List Passed → Type 0 where
  by_inner_link : {name : List ℕ} {inner : PlainNetwork} {from to : Place} → IsInner view network name inner
      → (link : IsLink view inner sort from to)
      → StaysInside view sort network (name ∷ from) (name ∷ to) (map (inside name) (passed_by link.chain))

-- What is passed from a place to the source of a connection of the network itself: nothing, or what is inside one subapplication instance, leads
-- to the port that the source names, and is passed by the chain of a border of the inner network.
pub data IsBefore (view : View) (sort : Sort) (network : PlainNetwork) : Place → End → List Passed → Type 0 where
  nothing_before : (source : End) → IsBefore view sort network (place_of source) source []
  border_before : {name port : List ℕ} {inner : PlainNetwork} {from : Place} → IsInner view network name inner
      → (border : IsBorder view inner sort port from) (chain : Chain view sort inner from (port ∷ []))
      → border.chain ≡ inr chain
      → IsBefore view sort network (name ∷ from) (Of name port) (map (inside name) (passed_by chain))

-- What is passed from its destination to a place: nothing, or what leads on from the port that the destination names, and the chain of a border passes.
pub data IsAfter (view : View) (sort : Sort) (network : PlainNetwork) : End → Place → List Passed → Type 0 where
  nothing_after : (destination : End) → IsAfter view sort network destination (place_of destination) []
  border_after : {name port : List ℕ} {inner : PlainNetwork} {to : Place} → IsInner view network name inner
      → (border : IsBorder view inner sort port to) (chain : Chain view sort inner (port ∷ []) to)
      → border.chain ≡ inl chain
      → IsAfter view sort network (Of name port) (name ∷ to) (map (inside name) (passed_by chain))

-- Exactly one connection of the network itself is passed, and before and after it nothing or a border of an inner network.
pub record CrossesOnce (view : View) (sort : Sort) (network : PlainNetwork) (a b : Place) (passed : List Passed) : Type 0 where
  pub source : End
  pub destination : End
  pub connected : IsConnected network sort source destination
  pub once : filter is_own passed ≡ own source destination ∷ []
  pub before : List Passed
  pub after : List Passed
  pub whole : passed ≡ before ++ (own source destination ∷ after)
  pub is_before : IsBefore view sort network a source before
  pub is_after : IsAfter view sort network destination b after

-- the chain of a link is inside one subapplication instance, or crosses once
abbrev pub LinksAreComposed : View → PlainNetwork → Type 0
LinksAreComposed view network =
    (sort : Sort) (a b : Place) (link : IsLink view network sort a b)
    → StaysInside view sort network a b (passed_by link.chain) ⊎ CrossesOnce view sort network a b (passed_by link.chain)

-- the chain of a border, whichever way it leads, crosses once
abbrev pub CrossesFrom : (view : View) (sort : Sort) (network : PlainNetwork) (p q : Place)
    → Chain view sort network p q ⊎ Chain view sort network q p → Type 0
CrossesFrom view sort network p q (inl chain) = CrossesOnce view sort network p q (passed_by chain)
CrossesFrom view sort network p q (inr chain) = CrossesOnce view sort network q p (passed_by chain)

abbrev pub BordersAreComposed : View → PlainNetwork → Type 0
BordersAreComposed view network =
    (sort : Sort) (port : List ℕ) (place : Place) (border : IsBorder view network sort port place)
    → CrossesFrom view sort network (port ∷ []) place border.chain

-- ---- units

-- the network of a subapplication, or that of one application of a system
pub data IsOwnNetwork (sources : Sources) (unit : List ℕ) : PlainNetwork → Type 0 where
  of_subapplication :
      {network : PlainNetwork} → kind_at sources unit ≡ Some Subapplication → declared sources unit ≡ Some network
      → IsOwnNetwork sources unit network
  of_application :
      {applications : List Application} {application : Application}
      → kind_at sources unit ≡ Some System → applications_at sources unit ≡ Some applications
      → Contains applications application
      → IsOwnNetwork sources unit application.network

-- a network of a unit whose net is flat
pub record IsOfFlat (sources : Sources) (unit : List ℕ) (network : PlainNetwork) : Type 0 where
  pub flat : PlainFlat
  pub net : net_at sources unit ≡ Some (flat_net flat)
  pub holds : IsOwnNetwork sources unit network

-- what holds of each of these networks
abbrev pub HoldsOfFlat : (View → PlainNetwork → Type 0) → Type 0
HoldsOfFlat Fact = (sources : Sources) (unit : List ℕ) (network : PlainNetwork) → IsOfFlat sources unit network
    → Fact (declared sources) network

-- such a network is clean at all depths
abbrev pub FlatUnitsAreClean : Type 0
FlatUnitsAreClean = HoldsOfFlat IsCleanThroughout

abbrev pub FlatLinksAreComposed : Type 0
FlatLinksAreComposed = HoldsOfFlat LinksAreComposed

abbrev pub FlatBordersAreComposed : Type 0
FlatBordersAreComposed = HoldsOfFlat BordersAreComposed

-- the net of the unit is flat, and is the flat network of this network
pub record HasFlatNet (sources : Sources) (unit : List ℕ) (network : PlainNetwork) : Type 0 where
  pub flat : PlainFlat
  pub net : net_at sources unit ≡ Some (flat_net flat)
  pub is_flat : IsFlat (declared sources) network flat

-- the net of the type of each of its subapplication instances is flat too, and is that of the inner network
abbrev pub InnerNetsAreFlat : Type 0
InnerNetsAreFlat =
    (sources : Sources) (unit : List ℕ) (network : PlainNetwork) → IsOfFlat sources unit network
    → (name : List ℕ) (inner : PlainNetwork) (is : IsInner (declared sources) network name inner)
    → HasFlatNet sources is.instance.type_name inner

-- and each border of the inner network is one of that net
abbrev pub InnerBordersAreListed : Type 0
InnerBordersAreListed =
    (sources : Sources) (type : List ℕ) (inner : PlainNetwork) (net : HasFlatNet sources type inner)
    (sort : Sort) (port : List ℕ) (place : Place) → IsBorder (declared sources) inner sort port place
    → Contains net.flat.borders (record { sort = sort; port = port; place = printed place })
