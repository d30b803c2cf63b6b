-- Entries of a flat network that is being composed, and the plain values that they mean.
use Rattle.std.specs.{Prelude.{ℕ, ◌<◌, ◌≡◌, List, ◌++◌, Some, map, length}, List.{All, Contains}, List.Sorted.{IsStrictlySortedBy}}
use Rattle.std.specs.declared.cmp.Ordering.{Ordering}
use Rattle.fb_network.specs.{LinkOrder.{border_cmp, link_cmp}, Places.{dotted}, Composed.{blocks_of, links_of}, PlainFlat.{PlainFlat}}
use Rattle.fb_network.specs.{PlainPrefix.{PlainPrefix}, Laid.{IsEdgeBelow, IsJoinBelow, IsLeafBelow, block_at, border_at, link_at, path_at}}
use Rattle.fb_network.specs.{declared.flat.FlatBlock.{FlatBlock}, declared.flat.Link.{Link}, declared.flat.Border.{Border}, declared.paths.place.Place.{Place}}
use Rattle.fb_network.specs.{declared.flat.entries.Leaf.{Leaf}, declared.flat.entries.Join.{Join}, declared.flat.entries.Edge.{Edge}, declared.composition.draft.Draft.{Draft}}

-- the entries name prefixes of the list, and by these they mean the plain ones
pub record IsReading {E X : Type 0} (below : ℕ → E → Type 0) (at : List PlainPrefix → E → X) (prefixes : List PlainPrefix) (entries : List E) (plain : List X) : Type 0 where
  pub in_range : All (below (length prefixes)) entries
  pub is : map (at prefixes) entries ≡ plain

abbrev pub IsPlaceBelow : ℕ → Place → Type 0
IsPlaceBelow count place = place.prefix < count

abbrev pub ArePlaces : List PlainPrefix → List Place → List (List ℕ) → Type 0
ArePlaces = IsReading IsPlaceBelow path_at

abbrev pub AreLeaves : List PlainPrefix → List Leaf → List FlatBlock → Type 0
AreLeaves = IsReading IsLeafBelow block_at

abbrev pub AreJoins : List PlainPrefix → List Join → List Link → Type 0
AreJoins = IsReading IsJoinBelow link_at

abbrev pub AreEdges : List PlainPrefix → List Edge → List Border → Type 0
AreEdges = IsReading IsEdgeBelow border_at

-- there are the old prefixes, and perhaps more after them
abbrev pub Grows : List PlainPrefix → List PlainPrefix → Type 0
Grows old new = (more : List PlainPrefix) × (new ≡ old ++ more)

-- a border of an inner network, seen from outside
abbrev pub border_within : List ℕ → Border → Border
border_within name b = record { sort = b.sort; port = b.port; place = dotted name b.place }

-- the draft also has what the instance of that name holds; these are the instance's borders
pub record TakesIn (old new : Draft) (name : List ℕ) (inner : PlainFlat) (edges : List Edge) : Type 0 where
  pub grows : Grows old.prefixes new.prefixes
  pub blocks :
      (blocks : List FlatBlock) → AreLeaves old.prefixes old.leaves.items blocks
      → AreLeaves new.prefixes new.leaves.items (blocks ++ blocks_of name (Some inner))
  pub links :
      (links : List Link) → AreJoins old.prefixes old.joins.items links
      → AreJoins new.prefixes new.joins.items (links ++ links_of name (Some inner))
  pub borders : AreEdges new.prefixes edges (map (border_within name) inner.borders)

-- the ordered list has the same members as the other one
pub record IsInOrder {X : Type 0} (cmp : X → X → Ordering) (made ordered : List X) : Type 0 where
  pub sorted : IsStrictlySortedBy cmp ordered
  pub kept : (x : X) → Contains made x → Contains ordered x
  pub added : (x : X) → Contains ordered x → Contains made x

-- the flat network has what the draft and the borders mean, links and borders in order
pub record IsFinish (draft : Draft) (edges : List Edge) (flat : PlainFlat) : Type 0 where
  pub blocks : flat.blocks ≡ map (block_at draft.prefixes) draft.leaves.items
  pub links : IsInOrder link_cmp (map (link_at draft.prefixes) draft.joins.items) flat.links
  pub borders : IsInOrder border_cmp (map (border_at draft.prefixes) edges) flat.borders
