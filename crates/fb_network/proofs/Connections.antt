-- The links and borders of connections, read by the prefixes of a draft.
use Rattle.std.proofs.Common.{ℕ, ◌≡◌, ◌<◌, ◌+◌, List, [], ◌∷◌, ◌++◌, Option, Some, length, map, take, get_or, refl, sym, ap, subst, ◌∙◌, arith, append_assoc, append-nil, length-append}
use Rattle.std.proofs.{lemmas.List.{length-map}, lemmas.List.Concat.{flat_map-append}, lemmas.Option.{slice_get-map, slice_get_read, slice_get_within}}
use Rattle.std.specs.{Prelude.{slice_get, flat_map, option_map, option_and_then}, List.{All}}
use Rattle.fb_tree.specs.declared.network.Sort.{Sort}
use Rattle.fb_network.specs.{declared.network.Port.{Port}, declared.network.Instance.{Instance}, declared.network.Connection.{Connection}, declared.network.End.{End}}
use Rattle.fb_network.specs.{declared.flat.Link.{Link}, declared.paths.place.Place.{Place}, declared.flat.entries.Edge.{Edge}}
use Rattle.fb_network.specs.{declared.composition.draft.Draft.{Draft}, declared.network.table.Standing.{Standing}, Network.{View, instance_named, place_of}, Clean.{adapter_at}}
use Rattle.fb_network.specs.{Plain.{PlainNetwork}, PlainPrefix.{PlainPrefix}, Ready.{Nets}}
use Rattle.fb_network.specs.Composed.{adapter_links, behind_of, connection_borders, connection_links, end_borders, link_pairs, links_of_sort}
use Rattle.fb_network.specs.Standing.{AddsConnections, AddsLinks, AreEdgesOf, AreNamed, HasInstances, HasOwn, IsTable, Says, end_text, own_place, own_texts}
use Rattle.fb_network.specs.Behind.{AreMembers, adapter_joins, connection_edges, edges_of_end, join_pairs, places_behind}
use Rattle.fb_network.specs.{Laid.{IsEdgeBelow, border_at, path_at, path_in, text_or_nothing}, Reading.{AreEdges, ArePlaces, Grows, IsPlaceBelow}}
use Rattle.fb_network.proofs.{Behinds.{behind_reads, end_edges_read, pairs_read}, Drafts.{added}, PortMembers.{adapter_reads, members_grown}}
use Rattle.fb_network.proofs.Readings.{get_left, get_right, joins_grown, places_grown, reading_both, reading_nothing}
use Rattle.fb_network.proofs.Standings.{flat_map_push, grows_none, grows_twice, next_taken, table_grown}

-- an element in a list, and what a map gives of it
get_mapped : {X Y : Type 0} (f : X → Y) (xs : List X) (k : ℕ) (x : X) → k < length xs → x ≡ get_or xs k x → slice_get (map f xs) k ≡ Some (f x)
get_mapped f xs k x lt e = slice_get-map f xs k ∙ ap (option_map f) (slice_get_read xs (length xs) k x refl lt e)

-- a network's own texts by their numbers
pub own_name : (network : PlainNetwork) (k : ℕ) (i : Instance) → k < length network.instances → i ≡ get_or network.instances k i → slice_get (own_texts network) k ≡ Some i.name
own_name network k i lt e =
    let names = map (λ (x : Instance). x.name) network.instances in
    let sources = map (λ (c : Connection). end_text c.source) network.connections in
    get_left (names ++ sources) (map (λ (c : Connection). end_text c.destination) network.connections) k (grind (arith, length-map, length-append))
    ∙ get_left names sources k (grind (arith, length-map)) ∙ get_mapped (λ (x : Instance). x.name) network.instances k i lt e

pub own_source : (network : PlainNetwork) (k : ℕ) (c : Connection) → k < length network.connections → c ≡ get_or network.connections k c → slice_get (own_texts network) (length network.instances + k) ≡ Some (end_text c.source)
own_source network k c lt e =
    let names = map (λ (x : Instance). x.name) network.instances in
    let sources = map (λ (x : Connection). end_text x.source) network.connections in
    get_left (names ++ sources) (map (λ (x : Connection). end_text x.destination) network.connections) (length network.instances + k) (grind (arith, length-map, length-append))
    ∙ get_right names sources k (length network.instances + k) (grind (arith, length-map)) ∙ get_mapped (λ (x : Connection). end_text x.source) network.connections k c lt e

pub own_destination : (network : PlainNetwork) (k : ℕ) (c : Connection) → k < length network.connections → c ≡ get_or network.connections k c → slice_get (own_texts network) (length network.connections + (length network.instances + k)) ≡ Some (end_text c.destination)
own_destination network k c lt e =
    let names = map (λ (x : Instance). x.name) network.instances in
    let sources = map (λ (x : Connection). end_text x.source) network.connections in
    get_right (names ++ sources) (map (λ (x : Connection). end_text x.destination) network.connections) k (length network.connections + (length network.instances + k)) (grind (arith, length-map, length-append))
    ∙ get_mapped (λ (x : Connection). end_text x.destination) network.connections k c lt e

-- an own text is at its place
pub own_says : (prefixes : List PlainPrefix) (network : PlainNetwork) (k : ℕ) (text : List ℕ) → HasOwn prefixes network → slice_get (own_texts network) k ≡ Some text → Says prefixes (own_place k) text
own_says prefixes network k text has e =
    record { in_range = slice_get_within prefixes 0 _ has; is = ap (λ (o : Option PlainPrefix). path_in o k) has ∙ ap text_or_nothing e }

-- the ends of a connection are at their places
pub says_source : (prefixes : List PlainPrefix) (network : PlainNetwork) (ys : List Connection) (k : ℕ) (c : Connection) (place : Place) → HasOwn prefixes network → ys ≡ network.connections → k < length ys → c ≡ get_or ys k c → place ≡ own_place (length network.instances + k) → Says prefixes place (end_text c.source)
says_source prefixes network ys k c place has same lt e is =
    rw is (own_says prefixes network (length network.instances + k) (end_text c.source) has (own_source network k c (rw same at lt) (rw same at e)))

pub says_destination : (prefixes : List PlainPrefix) (network : PlainNetwork) (ys : List Connection) (k : ℕ) (c : Connection) (place : Place) → HasOwn prefixes network → ys ≡ network.connections → k < length ys → c ≡ get_or ys k c → place ≡ own_place (length ys + (length network.instances + k)) → Says prefixes place (end_text c.destination)
says_destination prefixes network ys k c place has same lt e is =
    rw (is, same) (own_says prefixes network (length network.connections + (length network.instances + k)) (end_text c.destination) has (own_destination network k c (rw same at lt) (rw same at e)))

pub are_named : (prefixes : List PlainPrefix) (network : PlainNetwork) → HasOwn prefixes network → AreNamed prefixes network.instances
are_named prefixes network has k i lt e = own_says prefixes network k i.name has (own_name network k i lt e)

-- the first prefix is put
pub own_put : (old new : List PlainPrefix) (prefix : PlainPrefix) (network : PlainNetwork) → old ≡ [] → new ≡ old ++ prefix ∷ [] → prefix ≡ record { start = []; ends = own_texts network } → HasOwn new network
own_put old new prefix network none is prefix_is = ap (λ (fs : List PlainPrefix). slice_get fs 0) (is ∙ ap (λ (fs : List PlainPrefix). fs ++ prefix ∷ []) none) ∙ ap Some prefix_is

pub own_grown : (prefixes new : List PlainPrefix) (network : PlainNetwork) → Grows prefixes new → HasOwn prefixes network → HasOwn new network
own_grown prefixes new network g has = ap (λ (fs : List PlainPrefix). slice_get fs 0) g.1 ∙ get_left prefixes g.0 0 (slice_get_within prefixes 0 _ has) ∙ has

-- the instances of a table
pub table_instances : (prefixes : List PlainPrefix) (nets : Nets) (table : List ℕ → Option Standing) (xs : List Instance) → IsTable prefixes nets table xs → HasInstances table xs
table_instances prefixes nets table xs is name = grind (arith, is name)

pub standing_type : (view : View) (o : Option Standing) → option_and_then (λ (s : Standing). view s.instance.type_name) o ≡ option_and_then (λ (i : Instance). view i.type_name) (option_map (λ (s : Standing). s.instance) o)
standing_type view o = grind arith

-- no links more
pub adds_none : (draft : Draft) → AddsLinks draft draft []
adds_none draft =
    record { grows = grows_none draft.prefixes; same_blocks = refl; links = λ links p. rw (append-nil links) p }

-- first some links, and then others
pub adds_both : (start mid new : Draft) (xs ys : List Link) → AddsLinks start mid xs → AddsLinks mid new ys → AddsLinks start new (xs ++ ys)
adds_both start mid new xs ys p q =
    record {
      grows = grows_twice start.prefixes mid.prefixes new.prefixes p.grows q.grows;
      same_blocks = q.same_blocks ∙ p.same_blocks;
      links = λ links r. rw (append_assoc links xs ys) at (q.links (links ++ xs) (p.links links r));
    }

-- the links of pairs of places
pub adds_pairs : (old new : Draft) (sort : Sort) (froms tos : List Place) → All (IsPlaceBelow (length old.prefixes)) froms → All (IsPlaceBelow (length old.prefixes)) tos → new.prefixes ≡ old.prefixes → new.leaves.items ≡ old.leaves.items → new.joins.items ≡ old.joins.items ++ join_pairs sort froms tos → AddsLinks old new (link_pairs sort (map (path_at old.prefixes) froms) (map (path_at old.prefixes) tos))
adds_pairs old new sort froms tos below reach prefixes_stay leaves_stay is =
    let prefixes = old.prefixes in
    let grows : Grows prefixes new.prefixes = ([], prefixes_stay ∙ sym (append-nil prefixes)) in
    let pairs = pairs_read prefixes sort froms tos (map (path_at prefixes) froms) (map (path_at prefixes) tos) (record { in_range = below; is = refl }) (record { in_range = reach; is = refl }) in
    record {
      grows = grows;
      same_blocks = leaves_stay;
      links = λ links p. added new.joins.items (link_pairs sort (map (path_at prefixes) froms) (map (path_at prefixes) tos)) is refl (joins_grown grows p) (joins_grown grows pairs);
    }

-- the links of an adapter's ports
pub adds_members : (old new : Draft) (between : List PlainPrefix) (names : List (List ℕ)) (ports : List Port) (plugs sockets : List Place) (ns ms : List ℕ) → All (IsPlaceBelow (length old.prefixes)) sockets → names ≡ map (λ (port : Port). port.name) ports → Grows old.prefixes between → AreMembers between names ns (map (path_at old.prefixes) plugs) → Grows between new.prefixes → AreMembers new.prefixes names ms (map (path_at between) sockets) → new.leaves.items ≡ old.leaves.items → new.joins.items ≡ old.joins.items ++ adapter_joins ports ns ms → AddsLinks old new (adapter_links ports (map (path_at old.prefixes) plugs) (map (path_at old.prefixes) sockets))
adds_members old new between names ports plugs sockets ns ms reach named g p h q leaves_stay is =
    let prefixes = old.prefixes in
    let stay : ArePlaces between sockets (map (path_at prefixes) sockets) = places_grown g (record { in_range = reach; is = refl }) in
    let grows = grows_twice prefixes between new.prefixes g h in
    let plugged = members_grown between new.prefixes names ns (map (path_at prefixes) plugs) h p in
    let socketed = subst (λ (ts : List (List ℕ)). AreMembers new.prefixes names ms ts) stay.is q in
    let members = adapter_reads new.prefixes names ports named ns (map (path_at prefixes) plugs) ms (map (path_at prefixes) sockets) plugged socketed in
    record {
      grows = grows;
      same_blocks = leaves_stay;
      links = λ links r. added new.joins.items (adapter_links ports (map (path_at prefixes) plugs) (map (path_at prefixes) sockets)) is refl (joins_grown grows r) members;
    }

-- the links of one connection, by the places behind its ends
pub adds_connection : (view : View) (network : PlainNetwork) (table : List ℕ → Option Standing) (old new : Draft) (c : Connection) (source destination : Place) (froms tos : List Place) → Says old.prefixes source (end_text c.source) → Says old.prefixes destination (end_text c.destination) → froms ≡ places_behind table c.sort source c.source → tos ≡ places_behind table c.sort destination c.destination → AddsLinks old new (links_of_sort c.sort (adapter_at view network (place_of c.source)) (map (path_at old.prefixes) froms) (map (path_at old.prefixes) tos)) → AddsConnections view network table old new (c ∷ [])
adds_connection view network table old new c source destination froms tos from_says to_says froms_are tos_are adds nets is =
    let before = (behind_reads old.prefixes nets table network.instances c.sort source c.source is from_says).is in
    let after = (behind_reads old.prefixes nets table network.instances c.sort destination c.destination is to_says).is in
    rw (append-nil (connection_links view network (instance_named network.instances) nets c)) (rw (froms_are, before, tos_are, after) at adds)

-- places behind an end are in range
pub behind_below : (prefixes : List PlainPrefix) (network : PlainNetwork) (table : List ℕ → Option Standing) (sort : Sort) (own : Place) (end : End) (places : List Place) → (nets : Nets) × IsTable prefixes nets table network.instances → Says prefixes own (end_text end) → places ≡ places_behind table sort own end → All (IsPlaceBelow (length prefixes)) places
behind_below prefixes network table sort own end places laid says are = rw are (behind_reads prefixes laid.0 table network.instances sort own end laid.1 says).in_range

-- one connection more
pub connects_more : (view : View) (network : PlainNetwork) (table : List ℕ → Option Standing) (start mid new : Draft) (ys : List Connection) (k : ℕ) (c : Connection) → ys ≡ network.connections → k < length ys → c ≡ get_or ys k c → AddsConnections view network table start mid (take k ys) → AddsConnections view network table mid new (c ∷ []) → AddsConnections view network table start new (take (k + 1) ys)
connects_more view network table start mid new ys k c same lt e p q nets is =
    let f = connection_links view network (instance_named network.instances) nets in
    let first = p nets is in
    let then = q nets (table_grown start.prefixes mid.prefixes nets table network.instances first.grows is) in
    rw (← next_taken ys k c lt e, flat_map-append f (take k ys) (c ∷ [])) (adds_both start mid new (flat_map f (take k ys)) (flat_map f (c ∷ [])) first then)

-- the borders of one connection more
pub edges_more : (network : PlainNetwork) (table : List ℕ → Option Standing) (edges all : List Edge) (ys : List Connection) (k : ℕ) (c : Connection) (from to : Place) → ys ≡ network.connections → k < length ys → c ≡ get_or ys k c → from ≡ own_place (length network.instances + k) → to ≡ own_place (length ys + (length network.instances + k)) → all ≡ edges ++ connection_edges table from to c → AreEdgesOf network table edges (take k ys) → AreEdgesOf network table all (take (k + 1) ys)
edges_more network table edges all ys k c from to same lt e from_is to_is is p prefixes nets laid has =
    let f = connection_borders (instance_named network.instances) nets in
    let from_says = says_source prefixes network ys k c from has same lt e from_is in
    let to_says = says_destination prefixes network ys k c to has same lt e to_is in
    let sources = behind_reads prefixes nets table network.instances c.sort from c.source laid from_says in
    let destinations = behind_reads prefixes nets table network.instances c.sort to c.destination laid to_says in
    let left = end_edges_read prefixes c.sort c.source (places_behind table c.sort to c.destination) (behind_of (instance_named network.instances) nets c.sort c.destination) destinations in
    let right = end_edges_read prefixes c.sort c.destination (places_behind table c.sort from c.source) (behind_of (instance_named network.instances) nets c.sort c.source) sources in
    let one : AreEdges prefixes (connection_edges table from to c) (f c) =
    reading_both IsEdgeBelow border_at prefixes (edges_of_end c.sort c.source (places_behind table c.sort to c.destination)) (edges_of_end c.sort c.destination (places_behind table c.sort from c.source)) (end_borders c.sort c.source (behind_of (instance_named network.instances) nets c.sort c.destination)) (end_borders c.sort c.destination (behind_of (instance_named network.instances) nets c.sort c.source)) left right in
    rw (← next_taken ys k c lt e, flat_map_push f (take k ys) c) (added all (f c) is refl (p prefixes nets laid has) one)

pub edges_none : (network : PlainNetwork) (table : List ℕ → Option Standing) (edges : List Edge) → edges ≡ [] → AreEdgesOf network table edges []
edges_none network table edges none prefixes nets laid has = rw none (reading_nothing IsEdgeBelow border_at prefixes)
