-- A draft that has taken in an inner network.
use Rattle.std.proofs.Common.{ℕ, ◌≡◌, List, ◌++◌, length, map, ap, subst}
use Rattle.fb_network.specs.{PlainFlat.{PlainFlat}, PlainPrefix.{PlainPrefix}, Composed.{block_within, link_within}}
use Rattle.fb_network.specs.Laid.{IsLaid, edge_moved, flat_at, prefix_within, join_moved, leaf_moved}
use Rattle.fb_network.specs.{Reading.{Grows, IsInOrder, IsReading, TakesIn}, declared.flat.entries.Leaf.{Leaf}}
use Rattle.fb_network.specs.{declared.flat.entries.Join.{Join}, declared.flat.entries.Edge.{Edge}, declared.composition.draft.Draft.{Draft}, Once.{IsOnce}}
use Rattle.std.specs.{List.{Contains}, declared.cmp.Ordering.{Ordering}}
use Rattle.fb_tree.proofs.Text.Members.{contains_map, origin_in_map}
use Rattle.fb_network.proofs.Readings.{edges_moved, joins_grown, joins_moved, leaves_grown, leaves_moved, reading_both}

-- more entries behind those that there are
pub added : {E X : Type 0} {below : ℕ → E → Type 0} {at : List PlainPrefix → E → X} {prefixes : List PlainPrefix} {es fs : List E} {xs ys : List X} (all : List E) (zs : List X) → all ≡ es ++ fs → ys ≡ zs → IsReading below at prefixes es xs → IsReading below at prefixes fs ys → IsReading below at prefixes all (xs ++ zs)
added {below = below} {at = at} {prefixes = prefixes} {es = es} {fs = fs} {xs = xs} {ys = ys} all zs is same p q =
    rw (is, ← same) (reading_both below at prefixes es fs xs ys p q)

pub taken_in : (old new : Draft) (name : List ℕ) (inner : PlainFlat) (edges : List Edge) (by : ℕ) (prefixes : List PlainPrefix) (leaves : List Leaf) (joins : List Join) (own : List Edge)
    → by ≡ length old.prefixes → new.prefixes ≡ old.prefixes ++ map (prefix_within name) prefixes
    → new.leaves.items ≡ old.leaves.items ++ map (leaf_moved by) leaves → new.joins.items ≡ old.joins.items ++ map (join_moved by) joins → edges ≡ map (edge_moved by) own
    → IsLaid (length prefixes) leaves joins own → flat_at prefixes leaves joins own ≡ inner → TakesIn old new name inner edges
taken_in old new name inner edges by prefixes leaves joins own count prefixes_are leaves_are joins_are edges_are laid is =
    let grows : Grows old.prefixes new.prefixes = (map (prefix_within name) prefixes, prefixes_are) in
    record {
      grows = grows;
      blocks = λ blocks p. added new.leaves.items (map (block_within name) inner.blocks) leaves_are (ap (λ (net : PlainFlat). map (block_within name) net.blocks) is) (leaves_grown grows p)
          (leaves_moved old.prefixes prefixes new.prefixes name by leaves count prefixes_are laid.leaves_below);
      links = λ links p. added new.joins.items (map (link_within name) inner.links) joins_are (ap (λ (net : PlainFlat). map (link_within name) net.links) is) (joins_grown grows p)
          (joins_moved old.prefixes prefixes new.prefixes name by joins count prefixes_are laid.joins_below);
      borders = rw (edges_are, ← is) (edges_moved old.prefixes prefixes new.prefixes name by own count prefixes_are laid.edges_below);
    }

-- what is left in order says what the entries say
pub once_ordered : {E X : Type 0} {says : E → X} {cmp : X → X → Ordering} (old new : List E) → IsOnce says cmp old new → IsInOrder cmp (map says old) (map says new)
once_ordered {says = says} old new once =
    record {
      sorted = once.sorted;
      kept = once.kept;
      added = λ x c. let m = origin_in_map says new x c in subst (λ (y : _). Contains (map says old) y) m.gives (contains_map says old m.origin (once.left m.origin m.among));
    }
