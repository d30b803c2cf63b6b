-- The flat network of a system: what its applications hold, each inside the application's name (IEC 61499-1, clause 7).
use Rattle.std.specs.{Prelude.{◌≡◌, ◌↔◌, List, [], Contains, map}, List.{flat_map}, List.Sorted.{IsStrictlySortedBy}}
use Rattle.fb_network.specs.{declared.flat.FlatBlock.{FlatBlock}, declared.flat.Link.{Link}, PlainFlat.{PlainFlat}, LinkOrder.{link_cmp}}
use Rattle.fb_network.specs.{declared.flat.application.FlatApplication.{FlatApplication}, Composed.{block_within, link_within}}

-- the blocks of an application, seen from the system
abbrev pub application_blocks : FlatApplication → List FlatBlock
application_blocks a = map (block_within a.name) a.flat.blocks

-- the links of an application, seen from the system
abbrev pub application_links : FlatApplication → List Link
application_links a = map (link_within a.name) a.flat.links

-- a link of one of the applications, inside its name
pub record IsApplicationLink (applications : List FlatApplication) (link : Link) : Type 0 where
  pub application : FlatApplication
  pub among : Contains applications application
  pub own : Link
  pub is_own : Contains application.flat.links own
  pub inside : link ≡ link_within application.name own

-- it has the blocks of the applications in their order, their links in order, each once, and no borders
pub record IsSystemFlat (applications : List FlatApplication) (flat : PlainFlat) : Type 0 where
  pub blocks : flat.blocks ≡ flat_map application_blocks applications
  pub links : (link : Link) → Contains flat.links link ↔ IsApplicationLink applications link
  pub links_sorted : IsStrictlySortedBy link_cmp flat.links
  pub borders : flat.borders ≡ []
