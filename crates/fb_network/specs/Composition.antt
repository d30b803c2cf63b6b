-- How a chain of a network is composed of chains of its subapplications.
use Rattle.std.specs.Prelude.{ℕ, ◌≡◌, List, [], ◌∷◌, ◌⊎◌}
use Rattle.fb_tree.specs.declared.network.Sort.{Sort}
use Rattle.fb_network.specs.{declared.network.End.{End}, declared.network.End.TheVariants.{Own, Of}, Plain.{PlainNetwork}}
use Rattle.fb_network.specs.Network.{View, Place, place_of, IsInner, IsBlock, IsConnected, Chain, IsLink, IsBorder}

-- both places and the chain are inside one subapplication instance
pub record LiesInside (view : View) (sort : Sort) (network : PlainNetwork) (a b : Place) : Type 0 where
  pub inner : PlainNetwork
  pub name : List ℕ
  pub from : Place
  pub to : Place
  pub is_inner : IsInner view network name inner
  pub from_is : a ≡ name ∷ from
  pub to_is : b ≡ name ∷ to
  pub chain : Chain view sort inner from to

-- a chain inside a subapplication instance leads to the port that the end names
pub record LeavesInner (view : View) (sort : Sort) (network : PlainNetwork) (a : Place) (end : End) : Type 0 where
  pub inner : PlainNetwork
  pub name : List ℕ
  pub port : List ℕ
  pub from : Place
  pub is_inner : IsInner view network name inner
  pub end_is : end ≡ Of name port
  pub from_is : a ≡ name ∷ from
  pub chain : Chain view sort inner from (port ∷ [])

-- a chain inside a subapplication instance leads on from the port that the end names
pub record EntersInner (view : View) (sort : Sort) (network : PlainNetwork) (end : End) (b : Place) : Type 0 where
  pub inner : PlainNetwork
  pub name : List ℕ
  pub port : List ℕ
  pub to : Place
  pub is_inner : IsInner view network name inner
  pub end_is : end ≡ Of name port
  pub to_is : b ≡ name ∷ to
  pub chain : Chain view sort inner (port ∷ []) to

-- exactly one connection of the network itself, and before and after it nothing or a border
pub record Crosses (view : View) (sort : Sort) (network : PlainNetwork) (a b : Place) : Type 0 where
  pub source : End
  pub destination : End
  pub connected : IsConnected network sort source destination
  pub before : (a ≡ place_of source) ⊎ LeavesInner view sort network a source
  pub after : (b ≡ place_of destination) ⊎ EntersInner view sort network destination b

-- what a chain of a clean network is
abbrev pub IsComposed : View → Sort → PlainNetwork → Place → Place → Type 0
IsComposed view sort network a b = LiesInside view sort network a b ⊎ Crosses view sort network a b

-- a block's port leads to itself, and a subapplication's port to the places that its borders name
pub data IsBehind (view : View) (sort : Sort) (network : PlainNetwork) : End → Place → Type 0 where
  BlockItself : {end : End} {place : Place} (name type port : List ℕ) → IsBlock network name type → end ≡ Of name port → place ≡ name ∷ port ∷ [] → IsBehind view sort network end place
  BehindBorder : {end : End} {place : Place} (inner : PlainNetwork) (name port : List ℕ) (to : Place) → IsInner view network name inner → end ≡ Of name port → place ≡ name ∷ to → IsBorder view inner sort port to → IsBehind view sort network end place

-- a link of a subapplication instance
pub record LinksInside (view : View) (network : PlainNetwork) (sort : Sort) (a b : Place) : Type 0 where
  pub inner : PlainNetwork
  pub name : List ℕ
  pub from : Place
  pub to : Place
  pub is_inner : IsInner view network name inner
  pub from_is : a ≡ name ∷ from
  pub to_is : b ≡ name ∷ to
  pub link : IsLink view inner sort from to

-- a link by one connection of the network itself
pub record LinksAcross (view : View) (network : PlainNetwork) (sort : Sort) (a b : Place) : Type 0 where
  pub source : End
  pub destination : End
  pub connected : IsConnected network sort source destination
  pub before : IsBehind view sort network source a
  pub after : IsBehind view sort network destination b

abbrev pub IsComposedLink : View → PlainNetwork → Sort → Place → Place → Type 0
IsComposedLink view network sort a b = LinksInside view network sort a b ⊎ LinksAcross view network sort a b

-- a border by one connection of the network itself, which has the own port as its other end
pub record IsComposedBorder (view : View) (network : PlainNetwork) (sort : Sort) (port : List ℕ) (place : Place) : Type 0 where
  pub end : End
  pub connected : IsConnected network sort (Own port) end ⊎ IsConnected network sort end (Own port)
  pub behind : IsBehind view sort network end place

-- each chain of the network is composed
abbrev pub ChainsAreComposed : View → PlainNetwork → Type 0
ChainsAreComposed view network = (sort : Sort) (a b : Place) → Chain view sort network a b → IsComposed view sort network a b
