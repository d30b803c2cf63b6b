-- Entries keep what they say where prefixes are added, and say it inside an instance where they are moved.
use Rattle.std.proofs.Common.{ℕ, ◌≡◌, ◌<◌, ◌≤◌, ◌+◌, suc, zero, List, [], ◌∷◌, ◌++◌, Option, Some, None, length, map, refl, sym, ap, ◌∙◌, arith, append_assoc, length-append}
use Rattle.std.proofs.lemmas.List.Elements.{All-append, All-map, All-nil, All-weaker, All-head, All-tail}
use Rattle.std.proofs.{lemmas.List.{length-map, map-append}, lemmas.Option.{slice_get-map}, lemmas.Simd.{map-map}}
use Rattle.std.specs.{Prelude.{slice_get, option_map}, List.{All}}
use Rattle.fb_network.specs.{Places.{dotted}, PlainPrefix.{PlainPrefix}, declared.flat.FlatBlock.{FlatBlock}, declared.flat.Link.{Link}}
use Rattle.fb_network.specs.{declared.flat.Border.{Border}, declared.paths.place.Place.{Place}, declared.flat.entries.Leaf.{Leaf}, declared.flat.entries.Join.{Join}}
use Rattle.fb_network.specs.{declared.flat.entries.Edge.{Edge}, Composed.{block_within, link_within}}
use Rattle.fb_network.specs.Laid.{IsEdgeBelow, IsJoinBelow, IsLeafBelow, block_at, border_at, edge_moved, prefix_within, join_moved, leaf_moved, link_at, path_at, path_in, place_moved, text_or_nothing}
use Rattle.fb_network.specs.Reading.{AreEdges, AreJoins, AreLeaves, ArePlaces, Grows, IsPlaceBelow, IsReading, border_within}

-- what stands in a list that others follow
pub get_left : {X : Type 0} (xs ys : List X) (k : ℕ) → k < length xs → slice_get (xs ++ ys) k ≡ slice_get xs k
get_left [] ys k lt = absurd (omega (arith, lt))
get_left (x ∷ xs) ys zero lt = refl
get_left (x ∷ xs) ys (suc k) lt = get_left xs ys k (omega (arith, lt))

-- what stands behind a list
pub get_right : {X : Type 0} (xs ys : List X) (k n : ℕ) → n ≡ k + length xs → slice_get (xs ++ ys) n ≡ slice_get ys k
get_right [] ys k n e = ap (slice_get ys) (omega (arith, e))
get_right (x ∷ xs) ys k zero e = absurd (omega (arith, e))
get_right (x ∷ xs) ys k (suc n) e = get_right xs ys k n (omega (arith, e))

none_below : {X : Type 0} (xs : List X) (k : ℕ) → k < length xs → slice_get xs k ≡ None → ⊥
none_below [] k lt e = omega (arith, lt)
none_below (x ∷ xs) zero lt e = cc
none_below (x ∷ xs) (suc k) lt e = none_below xs k (omega (arith, lt)) e

-- a path stays where prefixes are added
pub path_grown : (prefixes more : List PlainPrefix) (p : Place) → p.prefix < length prefixes → path_at (prefixes ++ more) p ≡ path_at prefixes p
path_grown prefixes more p lt = ap (λ (o : Option PlainPrefix). path_in o p.end) (get_left prefixes more p.prefix lt)

-- a prefix inside an instance has its paths there
path_inside : (name : List ℕ) (o : Option PlainPrefix) (end : ℕ) → (o ≡ None → ⊥) → path_in (option_map (prefix_within name) o) end ≡ dotted name (path_in o end)
path_inside name None end some = absurd (some refl)
path_inside name (Some prefix) end some = append_assoc name (46 ∷ prefix.start) (text_or_nothing (slice_get prefix.ends end))

path_moved : (before inner : List PlainPrefix) (name : List ℕ) (by : ℕ) (p : Place) → by ≡ length before → p.prefix < length inner → path_at (before ++ map (prefix_within name) inner) (place_moved by p) ≡ dotted name (path_at inner p)
path_moved before inner name by p e lt =
    let found = get_right before (map (prefix_within name) inner) p.prefix (p.prefix + by) (ap (λ (n : ℕ). p.prefix + n) e) ∙ slice_get-map (prefix_within name) inner p.prefix in
    ap (λ (o : Option PlainPrefix). path_in o p.end) found ∙ path_inside name (slice_get inner p.prefix) p.end (none_below inner p.prefix lt)

module _ {E X : Type 0} (below : ℕ → E → Type 0) (at : List PlainPrefix → E → X) where
  pub reading_nothing : (prefixes : List PlainPrefix) → IsReading below at prefixes [] []
  reading_nothing prefixes = record { in_range = All-nil (below (length prefixes)); is = refl }

  pub reading_both : (prefixes : List PlainPrefix) (es fs : List E) (xs ys : List X) → IsReading below at prefixes es xs → IsReading below at prefixes fs ys → IsReading below at prefixes (es ++ fs) (xs ++ ys)
  reading_both prefixes es fs xs ys p q =
      record { in_range = All-append (below (length prefixes)) es fs p.in_range q.in_range; is = map-append (at prefixes) es fs ∙ (λ i. p.is i ++ q.is i) }

  -- entries that say the same one by one
  map_same : {Y : Type 0} (P : E → Type 0) (f g : E → Y) → ((e : E) → P e → f e ≡ g e) → (es : List E) → All P es → map f es ≡ map g es
  map_same P f g same [] all = refl
  map_same P f g same (e ∷ es) all = (λ i. same e (All-head P e es all) i ∷ map_same P f g same es (All-tail P e es all) i)

  module _ (weaker : (m n : ℕ) (e : E) → m ≤ n → below m e → below n e) (grown : (prefixes more : List PlainPrefix) (e : E) → below (length prefixes) e → at (prefixes ++ more) e ≡ at prefixes e) where
    pub reading_grown : (prefixes new : List PlainPrefix) (es : List E) (xs : List X) → Grows prefixes new → IsReading below at prefixes es xs → IsReading below at new es xs
    reading_grown prefixes new es xs g p =
        rw g.1 (record {
          in_range = All-weaker (below (length prefixes)) (below (length (prefixes ++ g.0))) (λ e b. weaker (length prefixes) (length (prefixes ++ g.0)) e (let long = length-append prefixes g.0 in omega (arith, long)) b) es p.in_range;
          is = map_same (below (length prefixes)) (at (prefixes ++ g.0)) (at prefixes) (grown prefixes g.0) es p.in_range ∙ p.is;
        })

  module _ (name : List ℕ) (move : ℕ → E → E) (inside : X → X)
      (moves_below : (by count : ℕ) (e : E) → below count e → below (by + count) (move by e))
      (moved : (before inner : List PlainPrefix) (by : ℕ) (e : E) → by ≡ length before → below (length inner) e → at (before ++ (map (prefix_within name) inner)) (move by e) ≡ inside (at inner e)) where
    pub reading_moved : (before inner new : List PlainPrefix) (by : ℕ) (es : List E) → by ≡ length before → new ≡ before ++ map (prefix_within name) inner → All (below (length inner)) es → IsReading below at new (map (move by) es) (map inside (map (at inner) es))
    reading_moved before inner new by es e is all =
        let count : by + length inner ≡ length new = omega (arith, e, ap length is, length-append before (map (prefix_within name) inner), length-map inner (prefix_within name)) in
        record {
          in_range = All-map (below (length new)) (move by) es
              (All-weaker (below (length inner)) (λ x. below (length new) (move by x)) (λ x b. rw count at (moves_below by (length inner) x b)) es all);
          is = map-map (at new) (move by) es
              ∙ map_same (below (length inner)) (λ x. at new (move by x)) (λ x. inside (at inner x)) (λ x b. rw is (moved before inner by x e b)) es all
              ∙ sym (map-map inside (at inner) es);
        }

pub places_grown : {prefixes new : List PlainPrefix} {es : List Place} {xs : List (List ℕ)} → Grows prefixes new → ArePlaces prefixes es xs → ArePlaces new es xs
places_grown g p = reading_grown IsPlaceBelow path_at (λ m n e le lt. omega (arith, le, lt)) path_grown _ _ _ _ g p

pub leaves_grown : {prefixes new : List PlainPrefix} {es : List Leaf} {xs : List FlatBlock} → Grows prefixes new → AreLeaves prefixes es xs → AreLeaves new es xs
leaves_grown g p =
    reading_grown IsLeafBelow block_at (λ m n e le lt. omega (arith, le, lt))
    (λ prefixes more e lt i. record { path = path_grown prefixes more e.place lt i; type_name = e.type_name }) _ _ _ _ g p

pub joins_grown : {prefixes new : List PlainPrefix} {es : List Join} {xs : List Link} → Grows prefixes new → AreJoins prefixes es xs → AreJoins new es xs
joins_grown g p =
    reading_grown IsJoinBelow link_at (λ m n e le b. (let lt = b.0 in omega (arith, le, lt), let lt = b.1 in omega (arith, le, lt)))
    (λ prefixes more e b i. record { sort = e.sort; from = path_grown prefixes more e.from b.0 i; to = path_grown prefixes more e.to b.1 i }) _ _ _ _ g p

pub edges_grown : {prefixes new : List PlainPrefix} {es : List Edge} {xs : List Border} → Grows prefixes new → AreEdges prefixes es xs → AreEdges new es xs
edges_grown g p =
    reading_grown IsEdgeBelow border_at (λ m n e le lt. omega (arith, le, lt))
    (λ prefixes more e lt i. record { sort = e.sort; port = e.port; place = path_grown prefixes more e.place lt i }) _ _ _ _ g p

-- the entries of an inner network, moved behind the prefixes that there are
pub leaves_moved : (before inner new : List PlainPrefix) (name : List ℕ) (by : ℕ) (es : List Leaf) → by ≡ length before → new ≡ before ++ map (prefix_within name) inner → All (IsLeafBelow (length inner)) es → AreLeaves new (map (leaf_moved by) es) (map (block_within name) (map (block_at inner) es))
leaves_moved before inner new name =
    reading_moved IsLeafBelow block_at name leaf_moved (block_within name) (λ by count x lt. omega (arith, lt))
    (λ before inner by x e lt i. record { path = path_moved before inner name by x.place e lt i; type_name = x.type_name }) before inner new

pub joins_moved : (before inner new : List PlainPrefix) (name : List ℕ) (by : ℕ) (es : List Join) → by ≡ length before → new ≡ before ++ map (prefix_within name) inner → All (IsJoinBelow (length inner)) es → AreJoins new (map (join_moved by) es) (map (link_within name) (map (link_at inner) es))
joins_moved before inner new name =
    reading_moved IsJoinBelow link_at name join_moved (link_within name) (λ by count x b. (let lt = b.0 in omega (arith, lt), let lt = b.1 in omega (arith, lt)))
    (λ before inner by x e b i. record { sort = x.sort; from = path_moved before inner name by x.from e b.0 i; to = path_moved before inner name by x.to e b.1 i }) before inner new

pub edges_moved : (before inner new : List PlainPrefix) (name : List ℕ) (by : ℕ) (es : List Edge) → by ≡ length before → new ≡ before ++ map (prefix_within name) inner → All (IsEdgeBelow (length inner)) es → AreEdges new (map (edge_moved by) es) (map (border_within name) (map (border_at inner) es))
edges_moved before inner new name =
    reading_moved IsEdgeBelow border_at name edge_moved (border_within name) (λ by count x lt. omega (arith, lt))
    (λ before inner by x e lt i. record { sort = x.sort; port = x.port; place = path_moved before inner name by x.place e lt i }) before inner new
