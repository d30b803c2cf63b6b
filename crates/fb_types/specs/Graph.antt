-- Graphs of names.
use Rattle.std.specs.{Prelude.{◌≡◌, ℕ, true, false, ◌||◌, List, [], Contains, filter}, Option.{option_map_or}, BTreeMap.{BTreeMap, get}, BTreeSet.{BTreeSet}}
use Rattle.std.specs.{declared.vec.Vec.{Vec}, declared.alloc.Global.{Global}}
use Rattle.fb_tree.specs.Text.Order.{name_cmp}
use Rattle.fb_iface.specs.{Library.Seen.{has_name}, Library.View.{Sources, parts_at}}

abbrev pub Edges : Type 0
Edges = BTreeMap (List ℕ) (Vec (List ℕ) Global)

-- the names to which the edges from a name lead
abbrev pub edges_at : Edges → List ℕ → List (List ℕ)
edges_at edges u = option_map_or (λ it. it.items) (get name_cmp edges u) []

-- those of them that are in the set
abbrev pub edges_within : Edges → BTreeSet (List ℕ) → List ℕ → List (List ℕ)
edges_within edges set u = filter (has_name set.keys) (edges_at edges u)

-- v is reached from u by one or more edges
pub data Follows (next : List ℕ → List (List ℕ)) : List ℕ → List ℕ → Type 0 where
  one : {u v : List ℕ} → Contains (next u) v → Follows next u v
  more : {u w v : List ℕ} → Follows next u w → Contains (next w) v → Follows next u v

-- each edge of one leads back in the other
abbrev pub IsReverse : Edges → Edges → Type 0
IsReverse forth back = (u v : List ℕ) → has_name (edges_at back v) u ≡ has_name (edges_at forth u) v

-- the graph of some names, their parts, the parts of these, and so on: its edges lead from each name to its parts, and back
pub record IsGraph (sources : Sources) (begun names : List (List ℕ)) (forth back : Edges) : Type 0 where
  pub begins : (u : List ℕ) → has_name begun u ≡ true → has_name names u ≡ true
  pub closed : (u v : List ℕ) → has_name names u ≡ true → has_name (parts_at sources u) v ≡ true → has_name names v ≡ true
  pub mentions : (u : List ℕ) → has_name names u ≡ true → edges_at forth u ≡ parts_at sources u
  pub outside : (u : List ℕ) → has_name names u ≡ false → edges_at forth u ≡ []
  pub reverse : IsReverse forth back

-- how far the names that reach themselves are found: what an undecided name reaches and is reached by is undecided too, found names reach themselves,
-- and no other decided name does
pub record IsDecided (next : List ℕ → List (List ℕ)) (undecided found : List (List ℕ)) : Type 0 where
  pub whole : (u v : List ℕ) → has_name undecided u ≡ true → Follows next u v → Follows next v u → has_name undecided v ≡ true
  pub sound : (u : List ℕ) → has_name found u ≡ true → Follows next u u
  pub complete : (u : List ℕ) → Follows next u u → (has_name undecided u || has_name found u) ≡ true

-- the undecided names were undecided before, and none of these names is undecided
abbrev pub AreDecided : List (List ℕ) → List (List ℕ) → List (List ℕ) → Type 0
AreDecided names before after = ((u : List ℕ) → has_name after u ≡ true → has_name before u ≡ true) × ((u : List ℕ) → has_name names u ≡ true → has_name after u ≡ false)
