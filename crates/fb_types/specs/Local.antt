-- What networks, applications and kinds depend on.
use Rattle.std.specs.{Prelude.{◌≡◌, ℕ, List, Option, Some, option_map}, FinMap.{get}}
use Rattle.fb_tree.specs.{Mentions.{unit_kind_of}, Tree.{DeclTree}, declared.kinds.UnitKind.TheVariants.{Block}}
use Rattle.fb_iface.specs.Library.View.{Sources, parts_in, values_in}
use Rattle.fb_types.specs.{Applications.{applications_of}, ByName.{applications_at, declared, kind_at}, Networks.{network_of}}

-- what is declared under a name is the same in both
pub record SameAt (a b : Sources) (name : List ℕ) : Type 0 where
  pub network : declared a name ≡ declared b name
  pub applications : applications_at a name ≡ applications_at b name
  pub kind : kind_at a name ≡ kind_at b name

-- what is declared under a name depends only on the text under that name
abbrev pub NetworksAreLocal : Type 0
NetworksAreLocal = (a b : Sources) (name : List ℕ) → get a name ≡ get b name → SameAt a b name

-- two trees, or none, have the same network, the same applications and the same kind
pub record HasSameNetwork (a b : Option DeclTree) : Type 0 where
  pub network : option_map network_of a ≡ option_map network_of b
  pub applications : option_map applications_of a ≡ option_map applications_of b
  pub kind : option_map unit_kind_of a ≡ option_map unit_kind_of b

-- they also mention the same, so that no net of what rests on one of them shows which it is
pub record HasSameInterface (a b : Option DeclTree) : Type 0 where
  pub parts : parts_in a ≡ parts_in b
  pub values : values_in a ≡ values_in b
  pub said : HasSameNetwork a b

-- both are trees of block types with the same interface
pub record AreInterchangeableBlocks (a b : Option DeclTree) : Type 0 where
  pub block : option_map unit_kind_of a ≡ Some Block
  pub says : HasSameInterface a b
