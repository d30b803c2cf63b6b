-- The places behind an end, and the links and borders of connections, by numbers say what they say in plain.
use Rattle.std.proofs.Common.{ℕ, ◌≡◌, ◌<◌, List, [], ◌∷◌, Option, Some, None, length, map, refl, sym, ap, subst, ◌∙◌, arith}
use Rattle.std.proofs.{lemmas.Simd.{map-map}, lemmas.List.Elements.{All-cons, All-filter, All-map, All-nil, All-head, All-tail, All-weaker}}
use Rattle.std.specs.{Prelude.{filter}, List.{All}}
use Rattle.fb_tree.specs.declared.network.Sort.{Sort}
use Rattle.fb_network.specs.{declared.network.InstanceKind.{InstanceKind}, declared.network.InstanceKind.TheVariants.{Block, Subapplication}}
use Rattle.fb_network.specs.{declared.network.Instance.{Instance}, declared.network.End.{End}, declared.network.End.TheVariants.{Own, Of}}
use Rattle.fb_network.specs.{declared.flat.Link.{Link}, declared.flat.Border.{Border}, declared.paths.place.Place.{Place}, declared.flat.entries.Edge.{Edge}, declared.flat.entries.Join.{Join}}
use Rattle.fb_network.specs.{declared.network.table.Standing.{Standing}, Network.{instance_named}, Places.{dotted}, PlainFlat.{PlainFlat}, PlainPrefix.{PlainPrefix}}
use Rattle.fb_network.specs.Ready.{Nets}
use Rattle.fb_network.specs.Composed.{behind_found, behind_instance, behind_kind, behind_of, belongs, border_places, end_borders, link_pairs, links_from, places_of}
use Rattle.fb_network.specs.Standing.{IsTable, Says, StandsFor, borders_of, end_text, inner_borders, inner_borders_of_kind}
use Rattle.fb_network.specs.Behind.{border_places_at, edge_belongs, edges_of_end, join_pairs, joins_from, places_behind, places_of_found, places_of_kind, places_of_standing}
use Rattle.fb_network.specs.{Laid.{IsEdgeBelow, IsJoinBelow, border_at, link_at, path_at}, Reading.{AreEdges, AreJoins, ArePlaces, IsPlaceBelow, border_within}}
use Rattle.fb_network.proofs.{Composing.{found_by_name}, Readings.{reading_both, reading_nothing}}

-- the borders of a port, by numbers and in plain
places_filter : (prefixes : List PlainPrefix) (sort : Sort) (port : List ℕ) (es : List Edge) → map (path_at prefixes) (border_places_at sort port es) ≡ map (λ (b : Border). b.place) (filter (belongs sort port) (map (border_at prefixes) es))
places_filter prefixes sort port [] = refl
places_filter prefixes sort port (e ∷ es) = grind (arith, places_filter prefixes sort port es)

filter_within : (sort : Sort) (port name : List ℕ) (bs : List Border) → map (λ (b : Border). b.place) (filter (belongs sort port) (map (border_within name) bs)) ≡ border_places sort name port bs
filter_within sort port name [] = refl
filter_within sort port name (x ∷ bs) = grind (arith, filter_within sort port name bs)

-- the places behind a port of an instance
stands_read : (prefixes : List PlainPrefix) (nets : Nets) (sort : Sort) (port name : List ℕ) (own : Place) (s : Standing) (i : Instance) → Says prefixes own (dotted name port) → i.name ≡ name → s.instance ≡ i → AreEdges prefixes s.borders.items (inner_borders nets i) → ArePlaces prefixes (places_of_standing sort port own s) (behind_instance nets sort name port i)
stands_read prefixes nets sort port name own s i says same_name same edges =
    subst (λ (k : InstanceKind). ArePlaces prefixes (places_of_kind k sort port own s.borders.items) (behind_instance nets sort name port i)) (ap (λ (x : Instance). x.kind) (sym same)) (by_kind i.kind edges)
  where
    by_net : (o : Option PlainFlat) → map (λ (b : Border). b.place) (filter (belongs sort port) (borders_of i.name o)) ≡ places_of sort name port o
    by_net None = refl
    by_net (Some net) = filter_within sort port i.name net.borders ∙ ap (λ (n : List ℕ). border_places sort n port net.borders) same_name

    by_kind : (k : InstanceKind) → AreEdges prefixes s.borders.items (inner_borders_of_kind k nets i.name i.type_name) → ArePlaces prefixes (places_of_kind k sort port own s.borders.items) (behind_kind k nets sort name port i.type_name)
    by_kind Block p = record { in_range = All-cons (IsPlaceBelow (length prefixes)) own [] says.in_range (All-nil (IsPlaceBelow (length prefixes))); is = ap (λ (t : List ℕ). t ∷ []) says.is }
    by_kind Subapplication p =
        record {
          in_range = All-map (IsPlaceBelow (length prefixes)) (λ (e : Edge). e.place) (filter (edge_belongs sort port) s.borders.items) (All-filter (edge_belongs sort port) (IsEdgeBelow (length prefixes)) s.borders.items p.in_range);
          is = places_filter prefixes sort port s.borders.items ∙ ap (λ (bs : List Border). map (λ (b : Border). b.place) (filter (belongs sort port) bs)) p.is ∙ by_net (nets i.type_name);
        }

-- the places behind an end
pub behind_reads : (prefixes : List PlainPrefix) (nets : Nets) (table : List ℕ → Option Standing) (xs : List Instance) (sort : Sort) (own : Place) (end : End) → IsTable prefixes nets table xs → Says prefixes own (end_text end) → ArePlaces prefixes (places_behind table sort own end) (behind_of (instance_named xs) nets sort end)
behind_reads prefixes nets table xs sort own (Own port) is says = reading_nothing IsPlaceBelow path_at prefixes
behind_reads prefixes nets table xs sort own (Of name port) is says = by_found (table name) (instance_named xs name) refl (is name)
  where
    by_found : (a : Option Standing) (b : Option Instance) → instance_named xs name ≡ b → StandsFor prefixes nets a b → ArePlaces prefixes (places_of_found sort port own a) (behind_found nets sort name port b)
    by_found None None e p = reading_nothing IsPlaceBelow path_at prefixes
    by_found (Some s) (Some i) e p = stands_read prefixes nets sort port name own s i says (found_by_name xs name i e).name_is p.0 p.1
    by_found a b e p = absurd p

-- the links from one place
from_reads : (prefixes : List PlainPrefix) (sort : Sort) (from : Place) (ts : List Place) (ys : List (List ℕ)) → from.prefix < length prefixes → ArePlaces prefixes ts ys → AreJoins prefixes (joins_from sort ts from) (links_from sort ys (path_at prefixes from))
from_reads prefixes sort from ts ys lt q =
    let join : Place → Join = λ to. record { sort = sort; from = from; to = to } in
    let link : List ℕ → Link = λ to. record { sort = sort; from = path_at prefixes from; to = to } in
    record {
      in_range = All-map (IsJoinBelow (length prefixes)) join ts (All-weaker (IsPlaceBelow (length prefixes)) (λ to. IsJoinBelow (length prefixes) (join to)) (λ to b. (lt, b)) ts q.in_range);
      is = map-map (link_at prefixes) join ts ∙ sym (map-map link (path_at prefixes) ts) ∙ ap (map link) q.is;
    }

-- the links of the pairs of places
pub pairs_read : (prefixes : List PlainPrefix) (sort : Sort) (fs ts : List Place) (xs ys : List (List ℕ)) → ArePlaces prefixes fs xs → ArePlaces prefixes ts ys → AreJoins prefixes (join_pairs sort fs ts) (link_pairs sort xs ys)
pairs_read prefixes sort fs ts xs ys p q = rw (← p.is) (by_pairs fs p.in_range)
  where
    by_pairs : (fs : List Place) → All (IsPlaceBelow (length prefixes)) fs → AreJoins prefixes (join_pairs sort fs ts) (link_pairs sort (map (path_at prefixes) fs) ys)
    by_pairs [] all = reading_nothing IsJoinBelow link_at prefixes
    by_pairs (f ∷ fs) all =
        reading_both IsJoinBelow link_at prefixes (joins_from sort ts f) (join_pairs sort fs ts) (links_from sort ys (path_at prefixes f)) (link_pairs sort (map (path_at prefixes) fs) ys)
        (from_reads prefixes sort f ts ys (All-head (IsPlaceBelow (length prefixes)) f fs all) q) (by_pairs fs (All-tail (IsPlaceBelow (length prefixes)) f fs all))

-- the borders of an end
pub end_edges_read : (prefixes : List PlainPrefix) (sort : Sort) (end : End) (ps : List Place) (ts : List (List ℕ)) → ArePlaces prefixes ps ts → AreEdges prefixes (edges_of_end sort end ps) (end_borders sort end ts)
end_edges_read prefixes sort (Own port) ps ts p =
    let edge : Place → Edge = λ place. record { sort = sort; port = port; place = place } in
    let border : List ℕ → Border = λ place. record { sort = sort; port = port; place = place } in
    record {
      in_range = All-map (IsEdgeBelow (length prefixes)) edge ps p.in_range;
      is = map-map (border_at prefixes) edge ps ∙ sym (map-map border (path_at prefixes) ps) ∙ ap (map border) p.is;
    }
end_edges_read prefixes sort (Of name port) ps ts p = reading_nothing IsEdgeBelow border_at prefixes
