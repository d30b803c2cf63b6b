-- What is composed of the right flat networks are the links and borders of the network.
use Rattle.std.proofs.Common.{ℕ, ◌≡◌, List, [], ◌∷◌, ◌++◌, Option, Some, None, ◌⊎◌, inl, inr, refl, sym, ◌∙◌, ap, subst, append_assoc}
use Rattle.std.proofs.{lemmas.Bool.{and_parts}, lemmas.List.Elements.{Contains-append_left, Contains-append_right, Contains-append_cases}}
use Rattle.std.specs.{Prelude.{Contains, flat_map, filter}, BTreeMap.{is_at}}
use Rattle.fb_tree.specs.{Text.Order.{name_cmp}, declared.network.Sort.{Sort}, declared.network.Sort.TheVariants.{Event, Data, Adapter}}
use Rattle.fb_tree.specs.{declared.interface.Side.{Side}, declared.interface.Side.TheVariants.{Input, Output}}
use Rattle.fb_network.specs.{Sorts.{same_sort}, declared.network.Port.{Port}, declared.network.InstanceKind.{InstanceKind}}
use Rattle.fb_network.specs.{declared.network.InstanceKind.TheVariants.{Block, Subapplication}, declared.network.Instance.{Instance}}
use Rattle.fb_network.specs.{declared.network.End.{End}, declared.network.End.TheVariants.{Own, Of}}
use Rattle.fb_network.specs.{Plain.{PlainNetwork}, declared.flat.Link.{Link}, declared.flat.Border.{Border}}
use Rattle.fb_network.specs.{Network.{View, Place, place_of, instance_named, IsInner, IsConnected, IsLink, IsBorder}, Clean.{IsCleanThroughout, adapter_at}}
use Rattle.fb_network.specs.{NetLink.{IsNetLink, Direct, FromPlug, ToPlug}, Composition.{IsBehind, BlockItself, BehindBorder, LinksAcross, IsComposedBorder}}
use Rattle.fb_network.specs.Composed.{belongs, border_places, behind_kind, behind_found, behind_of, links_from, link_pairs, link_within, links_of, inner_links_of_kind, inner_links, link_on_side, port_links, plug_links, adapter_links, links_of_adapter, links_of_sort, connection_links, end_borders, connection_borders, composed_links, composed_borders}
use Rattle.fb_network.specs.{Flat.{PrintsLink, PrintsBorder, AreLinks, AreBorders}, Ready.{Nets, AreFinished}, Places.{dotted}, Printed.{printed}}
use Rattle.fb_network.proofs.{Chains.{here}, AdapterLemmas.{adapter_at-inner, adapter_behind, net_link_ends, net_link_within}}
use Rattle.fb_network.proofs.Equals.{same_bytes, bytes_same, same_sorts, sort_same, printed-within}
use Rattle.fb_network.proofs.LinkLemmas.{no_leaf_nothing, link_composed, border_composed, link_of_composed, border_of_composed}
use Rattle.fb_tree.proofs.Text.Members.{contains_nothing, contains_here, contains_single, contains_map, origin_in_map, contains_flat_map, origin_in_flat_map, contains_filter, passes_in_filter, passes_in_find}

-- what a search by name finds
pub record FoundByName (instances : List Instance) (name : List ℕ) (i : Instance) : Type 0 where
  pub among : Contains instances i
  pub name_is : i.name ≡ name

pub found_by_name : (instances : List Instance) (name : List ℕ) (i : Instance) → instance_named instances name ≡ Some i → FoundByName instances name i
found_by_name instances name i e =
    let p = passes_in_find (λ (j : Instance). is_at (name_cmp j.name) name) instances i e in
    record { among = p.among; name_is = same_bytes i.name name p.passes }

-- the places that the code finds behind an end
pub record PrintsBehind (view : View) (sort : Sort) (network : PlainNetwork) (end : End) (text : List ℕ) : Type 0 where
  pub at : Place
  pub text_is : text ≡ printed at
  pub behind : IsBehind view sort network end at

-- the places behind a port of a subapplication instance
behind_inner_sound : {view : View} {network inner : PlainNetwork} {name : List ℕ} (sort : Sort) (port text : List ℕ) (borders : List Border) → IsInner view network name inner → AreBorders view inner borders → Contains (border_places sort name port borders) text → PrintsBehind view sort network (Of name port) text
behind_inner_sound {view = view} {network = network} {inner = inner} {name = name} sort port text borders i are c =
    let o = origin_in_map (λ (b : Border). dotted name b.place) (filter (belongs sort port) borders) text c in
    let p = passes_in_filter (belongs sort port) borders o.origin o.among in
    let same = and_parts (same_sort o.origin.sort sort) (is_at (name_cmp o.origin.port) port) p.passes in
    let s = are.sound o.origin p.among in
    let border : IsBorder view inner sort port s.at = rw (same_sorts o.origin.sort sort same.0, same_bytes o.origin.port port same.1) at s.border in
    record {
      at = name ∷ s.at;
      text_is = sym o.gives ∙ ap (dotted name) s.place_is ∙ sym (printed-within name s.at (no_leaf_nothing border.leaf));
      behind = BehindBorder inner name port s.at i refl refl border;
    }

-- the places behind a port of an instance
behind_instance_sound : {view : View} {network : PlainNetwork} {nets : Nets} {name : List ℕ} (sort : Sort) (port text : List ℕ) (i : Instance) → AreFinished view network nets → instance_named network.instances name ≡ Some i → (k : InstanceKind) → i.kind ≡ k → Contains (behind_kind k nets sort name port i.type_name) text → PrintsBehind view sort network (Of name port) text
behind_instance_sound {network = network} {name = name} sort port text i ready e Block g c =
    record {
      at = name ∷ port ∷ [];
      text_is = sym (contains_single (dotted name port) text c);
      behind = BlockItself name i.type_name port (record { instance = i; first = e; kind = g; typed = refl }) refl refl;
    }
behind_instance_sound {view = view} {network = network} {nets = nets} {name = name} sort port text i ready e Subapplication g c =
    let f = ready i ((found_by_name network.instances name i e).among) g in
    behind_inner_sound sort port text f.net.borders (record { instance = i; first = e; kind = g; declared = f.declared }) f.flat.borders (rw f.found at c)

-- the places that the code finds behind an end are behind it
pub behind_sound : {view : View} {network : PlainNetwork} {nets : Nets} (sort : Sort) (end : End) (text : List ℕ) → AreFinished view network nets → Contains (behind_of (instance_named network.instances) nets sort end) text → PrintsBehind view sort network end text
behind_sound sort (Own port) text ready c = absurd (contains_nothing text c)
behind_sound {view = view} {network = network} {nets = nets} sort (Of name port) text ready c = by_found (instance_named network.instances name) refl c
  where
    by_found : (o : Option Instance) → instance_named network.instances name ≡ o → Contains (behind_found nets sort name port o) text → PrintsBehind view sort network (Of name port) text
    by_found None e d = absurd (contains_nothing text d)
    by_found (Some i) e d = behind_instance_sound sort port text i ready e i.kind refl d

-- what is behind an end is among the places that the code finds
pub behind_complete : {view : View} {network : PlainNetwork} {nets : Nets} (sort : Sort) (end : End) (place : Place) → AreFinished view network nets → IsBehind view sort network end place → Contains (behind_of (instance_named network.instances) nets sort end) (printed place)
behind_complete sort end place ready (BlockItself name type port block e g) = rw (g, e, block.first, block.kind) (contains_here (dotted name port) [])
behind_complete {view = view} {network = network} {nets = nets} sort end place ready (BehindBorder inner name port to i e g border) =
    let f = ready i.instance ((found_by_name network.instances name i.instance i.first).among) i.kind in
    let same : inner ≡ f.inner = let k = i.declared in let h = f.declared in cc in
    let entry : Border = record { sort = sort; port = port; place = printed to } in
    let kept : Contains (filter (belongs sort port) f.net.borders) entry =
    contains_filter (belongs sort port) f.net.borders entry (f.flat.borders.complete sort port to (rw same at border)) (rw (sort_same sort) (bytes_same port)) in
    let listed : Contains (border_places sort name port f.net.borders) (dotted name (printed to)) =
    contains_map (λ (b : Border). dotted name b.place) (filter (belongs sort port) f.net.borders) entry kept in
    rw (g, printed-within name to (no_leaf_nothing border.leaf), e, i.first, i.kind, f.found) listed

-- a printed place with a port after it
printed-extended : (a : Place) (port : List ℕ) → (a ≡ [] → ⊥) → printed (a ++ port ∷ []) ≡ dotted (printed a) port
printed-extended [] port n = absurd (n refl)
printed-extended (x ∷ []) port n = refl
printed-extended (x ∷ (y ∷ a)) port n = ap (dotted x) (printed-extended (y ∷ a) port (λ e. cc)) ∙ sym (append_assoc x (46 ∷ printed (y ∷ a)) (46 ∷ port))

-- a link between two printed places
prints_link : {view : View} {network : PlainNetwork} {l : Link} (a b : Place) → l.from ≡ printed a → l.to ≡ printed b → IsNetLink view network l.sort a b → PrintsLink view network l
prints_link a b p q link = record { from_place = a; to_place = b; from_is = p; to_is = q; link = link }

-- a link of a subapplication instance, as the code prints it
inner_links_sound : {view : View} {network : PlainNetwork} {nets : Nets} (l : Link) (i : Instance) → IsCleanThroughout view network → AreFinished view network nets → Contains network.instances i → (k : InstanceKind) → i.kind ≡ k → Contains (inner_links_of_kind k nets i.name i.type_name) l → PrintsLink view network l
inner_links_sound l i clean ready among Block g c = absurd (contains_nothing l c)
inner_links_sound {view = view} {network = network} {nets = nets} l i clean ready among Subapplication g c =
    let f = ready i among g in
    let is_inner : IsInner view network i.name f.inner = record { instance = i; first = (here clean).named i among; kind = g; declared = f.declared } in
    let o = origin_in_map (link_within i.name) f.net.links l (rw f.found at c) in
    let s = f.flat.links.sound o.origin o.among in
    rw (← o.gives)
    (prints_link (i.name ∷ s.from_place) (i.name ∷ s.to_place) (ap (dotted i.name) s.from_is ∙ sym (printed-within i.name s.from_place (net_link_ends s.link).0))
    (ap (dotted i.name) s.to_is ∙ sym (printed-within i.name s.to_place (net_link_ends s.link).1)) (net_link_within clean is_inner s.link))

-- the links of the pairs behind two ends
pairs_sound : {view : View} {network : PlainNetwork} {nets : Nets} (l : Link) (sort : Sort) (s d : End) → (sort ≡ Adapter → ⊥) → IsCleanThroughout view network → AreFinished view network nets → IsConnected network sort s d → Contains (link_pairs sort (behind_of (instance_named network.instances) nets sort s) (behind_of (instance_named network.instances) nets sort d)) l → PrintsLink view network l
pairs_sound {view = view} {network = network} {nets = nets} l sort s d n clean ready connected h =
    let froms = behind_of (instance_named network.instances) nets sort s in
    let tos = behind_of (instance_named network.instances) nets sort d in
    let o = origin_in_flat_map (links_from sort tos) froms l h in
    let m = origin_in_map (λ (to : List ℕ). record { sort = sort; from = o.origin; to = to }) tos l o.has in
    let before = behind_sound sort s o.origin ready o.among in
    let after = behind_sound sort d m.origin ready m.among in
    let link : IsLink view network sort before.at after.at =
    link_of_composed clean (inr (record { source = s; destination = d; connected = connected; before = before.behind; after = after.behind })) in
    rw (← m.gives) (prints_link before.at after.at before.text_is after.text_is (Direct n link))

-- a link of an adapter's port between a plug and a socket
port_link_sound : {view : View} {network : PlainNetwork} (l : Link) (plug socket : Place) (adapter : PlainNetwork) (port : Port) → IsLink view network Adapter plug socket → adapter_at view network plug ≡ Some adapter → Contains adapter.ports port → (side : Side) → port.side ≡ side → link_on_side side port (printed plug) (printed socket) ≡ l → PrintsLink view network l
port_link_sound l plug socket adapter port link at among Output g e =
    rw (← e)
    (prints_link (plug ++ port.name ∷ []) (socket ++ port.name ∷ []) (sym (printed-extended plug port.name (no_leaf_nothing link.from_leaf)))
    (sym (printed-extended socket port.name (no_leaf_nothing link.to_leaf))) (FromPlug plug socket adapter port link at among refl g refl refl))
port_link_sound l plug socket adapter port link at among Input g e =
    rw (← e)
    (prints_link (socket ++ port.name ∷ []) (plug ++ port.name ∷ []) (sym (printed-extended socket port.name (no_leaf_nothing link.to_leaf)))
    (sym (printed-extended plug port.name (no_leaf_nothing link.from_leaf))) (ToPlug plug socket adapter port link at among refl g refl refl))

adapters_sound : {view : View} {network : PlainNetwork} {nets : Nets} (l : Link) (s d : End) → IsCleanThroughout view network → AreFinished view network nets → IsConnected network Adapter s d → (o : Option PlainNetwork) → adapter_at view network (place_of s) ≡ o → Contains (links_of_adapter o (behind_of (instance_named network.instances) nets Adapter s) (behind_of (instance_named network.instances) nets Adapter d)) l → PrintsLink view network l
adapters_sound l s d clean ready connected None at h = absurd (contains_nothing l h)
adapters_sound {view = view} {network = network} {nets = nets} l s d clean ready connected (Some adapter) found h =
    let plugs = behind_of (instance_named network.instances) nets Adapter s in
    let sockets = behind_of (instance_named network.instances) nets Adapter d in
    let ports = adapter.ports in
    let o = origin_in_flat_map (plug_links ports sockets) plugs l h in
    let m = origin_in_flat_map (port_links ports o.origin) sockets l o.has in
    let p = origin_in_map (λ (port : Port). link_on_side port.side port o.origin m.origin) ports l m.has in
    let before = behind_sound Adapter s o.origin ready o.among in
    let after = behind_sound Adapter d m.origin ready m.among in
    let link : IsLink view network Adapter before.at after.at =
    link_of_composed clean (inr (record { source = s; destination = d; connected = connected; before = before.behind; after = after.behind })) in
    let gives : link_on_side p.origin.side p.origin (printed before.at) (printed after.at) ≡ l =
    subst (λ (t : List ℕ). link_on_side p.origin.side p.origin t (printed after.at) ≡ l) before.text_is (subst (λ (t : List ℕ). link_on_side p.origin.side p.origin o.origin t ≡ l) after.text_is p.gives) in
    port_link_sound l before.at after.at adapter p.origin link (adapter_behind s clean before.behind ∙ found) p.among p.origin.side refl gives

-- a link by a connection of the network, as the code prints it
connection_links_sound : {view : View} {network : PlainNetwork} {nets : Nets} (l : Link) (s d : End) → IsCleanThroughout view network → AreFinished view network nets → (sort : Sort) → IsConnected network sort s d → Contains (links_of_sort sort (adapter_at view network (place_of s)) (behind_of (instance_named network.instances) nets sort s) (behind_of (instance_named network.instances) nets sort d)) l → PrintsLink view network l
connection_links_sound l s d clean ready Event connected h = pairs_sound l Event s d (λ e. cc) clean ready connected h
connection_links_sound l s d clean ready Data connected h = pairs_sound l Data s d (λ e. cc) clean ready connected h
connection_links_sound {view = view} {network = network} l s d clean ready Adapter connected h = adapters_sound l s d clean ready connected (adapter_at view network (place_of s)) refl h

links_sound : {view : View} {network : PlainNetwork} {nets : Nets} (l : Link) → IsCleanThroughout view network → AreFinished view network nets → Contains (composed_links view network (instance_named network.instances) nets) l → PrintsLink view network l
links_sound {view = view} {network = network} {nets = nets} l clean ready c =
    let links = connection_links view network (instance_named network.instances) nets in
    elim (Contains-append_cases (flat_map (inner_links nets) network.instances) (flat_map links network.connections) l c) [
      | inl d ↦ let o = origin_in_flat_map (inner_links nets) network.instances l d in inner_links_sound l o.origin clean ready o.among o.origin.kind refl o.has
      | inr d ↦ let o = origin_in_flat_map links network.connections l d in
          let k = o.origin in
          connection_links_sound l k.source k.destination clean ready k.sort (record { connection = k; among = o.among; sorted = refl; source = refl; destination = refl }) o.has
    ]

-- the links that a connection of those ends gives
ends_links : (view : View) {network : PlainNetwork} (nets : Nets) (l : Link) (sort : Sort) (s d : End) → IsConnected network sort s d → Contains (links_of_sort sort (adapter_at view network (place_of s)) (behind_of (instance_named network.instances) nets sort s) (behind_of (instance_named network.instances) nets sort d)) l → Contains (composed_links view network (instance_named network.instances) nets) l
ends_links view {network = network} nets l sort s d c h =
    Contains-append_right (flat_map (inner_links nets) network.instances) (flat_map (connection_links view network (instance_named network.instances) nets) network.connections) l
    (contains_flat_map (connection_links view network (instance_named network.instances) nets) network.connections c.connection l c.among (rw (c.sorted, c.source, c.destination) h))

-- the pair of what is behind two ends
pair_listed : {view : View} {network : PlainNetwork} {nets : Nets} (sort : Sort) (a b : Place) (s d : End) → AreFinished view network nets → IsBehind view sort network s a → IsBehind view sort network d b → Contains (link_pairs sort (behind_of (instance_named network.instances) nets sort s) (behind_of (instance_named network.instances) nets sort d)) (record { sort = sort; from = printed a; to = printed b })
pair_listed {network = network} {nets = nets} sort a b s d ready before after =
    let l : Link = record { sort = sort; from = printed a; to = printed b } in
    let tos = behind_of (instance_named network.instances) nets sort d in
    contains_flat_map (links_from sort tos) (behind_of (instance_named network.instances) nets sort s) (printed a) l (behind_complete sort s a ready before)
    (contains_map (λ (to : List ℕ). record { sort = sort; from = printed a; to = to }) tos (printed b) (behind_complete sort d b ready after))

-- where the sort is event or data, the pairs are the links
direct_listed : (l : Link) (o : Option PlainNetwork) (froms tos : List (List ℕ)) (sort : Sort) → (sort ≡ Adapter → ⊥) → Contains (link_pairs sort froms tos) l → Contains (links_of_sort sort o froms tos) l
direct_listed l o froms tos Event n h = h
direct_listed l o froms tos Data n h = h
direct_listed l o froms tos Adapter n h = absurd (n refl)

-- the entry of the list for a link
abbrev entry_of : Sort → Place → Place → Link
entry_of sort a b = record { sort = sort; from = printed a; to = printed b }

-- the link of a port of the adapter between what is behind two ends
port_listed : {view : View} {network : PlainNetwork} {nets : Nets} (l : Link) (plug socket : Place) (adapter : PlainNetwork) (port : Port) → IsCleanThroughout view network → AreFinished view network nets → LinksAcross view network Adapter plug socket → adapter_at view network plug ≡ Some adapter → Contains adapter.ports port → link_on_side port.side port (printed plug) (printed socket) ≡ l → Contains (composed_links view network (instance_named network.instances) nets) l
port_listed {view = view} {network = network} {nets = nets} l plug socket adapter port clean ready across at among is =
    let own = link_on_side port.side port (printed plug) (printed socket) in
    let plugs = behind_of (instance_named network.instances) nets Adapter across.source in
    let sockets = behind_of (instance_named network.instances) nets Adapter across.destination in
    let one = contains_map (λ (p : Port). link_on_side p.side p (printed plug) (printed socket)) adapter.ports port among in
    let listed : Contains (adapter_links adapter.ports plugs sockets) own =
    contains_flat_map (plug_links adapter.ports sockets) plugs (printed plug) own (behind_complete Adapter across.source plug ready across.before)
    (contains_flat_map (port_links adapter.ports (printed plug)) sockets (printed socket) own (behind_complete Adapter across.destination socket ready across.after) one) in
    let found : Some adapter ≡ adapter_at view network (place_of across.source) = sym at ∙ adapter_behind across.source clean across.before in
    rw (← is) (ends_links view nets own Adapter across.source across.destination across.connected (subst (λ (o : Option PlainNetwork). Contains (links_of_adapter o plugs sockets) own) found listed))

-- a link of an inner network is listed
inner_listed : {view : View} {network inner : PlainNetwork} {nets : Nets} {name : List ℕ} (sort : Sort) (a b from to : Place) → AreFinished view network nets → IsInner view network name inner → IsNetLink view inner sort from to → a ≡ name ∷ from → b ≡ name ∷ to → Contains (composed_links view network (instance_named network.instances) nets) (entry_of sort a b)
inner_listed {view = view} {network = network} {inner = inner} {nets = nets} {name = name} sort a b from to ready is_inner link from_is to_is =
    let i = is_inner.instance in
    let found = found_by_name network.instances name i is_inner.first in
    let f = ready i found.among is_inner.kind in
    let same : inner ≡ f.inner = let k = is_inner.declared in let h = f.declared in cc in
    let own = contains_map (link_within i.name) f.net.links (entry_of sort from to) (f.flat.links.complete sort from to (rw same at link)) in
    let listed = subst (λ (n : List ℕ). Contains (links_of i.name (Some f.net)) (link_within n (entry_of sort from to))) found.name_is own in
    Contains-append_left (flat_map (inner_links nets) network.instances) (flat_map (connection_links view network (instance_named network.instances) nets) network.connections) (entry_of sort a b)
    (contains_flat_map (inner_links nets) network.instances i (entry_of sort a b) found.among
    (rw (from_is, to_is, printed-within name from (net_link_ends link).0, printed-within name to (net_link_ends link).1, is_inner.kind, f.found) listed))

links_complete : {view : View} {network : PlainNetwork} {nets : Nets} (sort : Sort) (a b : Place) → IsCleanThroughout view network → AreFinished view network nets → IsNetLink view network sort a b → Contains (composed_links view network (instance_named network.instances) nets) (entry_of sort a b)
links_complete {view = view} {network = network} {nets = nets} sort a b clean ready (Direct n link) =
    elim (link_composed clean link) [
      | inl l ↦ inner_listed sort a b l.from l.to ready l.is_inner (Direct n l.link) l.from_is l.to_is
      | inr l ↦ ends_links view nets (entry_of sort a b) sort l.source l.destination l.connected
          (direct_listed (entry_of sort a b) (adapter_at view network (place_of l.source)) (behind_of (instance_named network.instances) nets sort l.source) (behind_of (instance_named network.instances) nets sort l.destination) sort n (pair_listed sort a b l.source l.destination ready l.before l.after))
    ]
links_complete sort a b clean ready (FromPlug plug socket adapter port link found among k s f g) =
    elim (link_composed clean link) [
      | inl l ↦ inner_listed sort a b (l.from ++ port.name ∷ []) (l.to ++ port.name ∷ []) ready l.is_inner
          (FromPlug l.from l.to adapter port l.link (rw (l.from_is, adapter_at-inner l.from (no_leaf_nothing l.link.from_leaf) l.is_inner) at found) among k s refl refl) (rw l.from_is at f) (rw l.to_is at g)
      | inr l ↦ port_listed (entry_of sort a b) plug socket adapter port clean ready l found among
          (rw (f, g, printed-extended plug port.name (no_leaf_nothing link.from_leaf), printed-extended socket port.name (no_leaf_nothing link.to_leaf), ← k, s))
    ]
links_complete sort a b clean ready (ToPlug plug socket adapter port link found among k s f g) =
    elim (link_composed clean link) [
      | inl l ↦ inner_listed sort a b (l.to ++ port.name ∷ []) (l.from ++ port.name ∷ []) ready l.is_inner
          (ToPlug l.from l.to adapter port l.link (rw (l.from_is, adapter_at-inner l.from (no_leaf_nothing l.link.from_leaf) l.is_inner) at found) among k s refl refl) (rw l.to_is at f) (rw l.from_is at g)
      | inr l ↦ port_listed (entry_of sort a b) plug socket adapter port clean ready l found among
          (rw (f, g, printed-extended socket port.name (no_leaf_nothing link.to_leaf), printed-extended plug port.name (no_leaf_nothing link.from_leaf), ← k, s))
    ]

-- what is composed are the links of the network
pub composed_links_are : {view : View} {network : PlainNetwork} {nets : Nets} → IsCleanThroughout view network → AreFinished view network nets → AreLinks view network (composed_links view network (instance_named network.instances) nets)
composed_links_are clean ready = record { sound = λ l c. links_sound l clean ready c; complete = λ sort a b link. links_complete sort a b clean ready link }

-- the borders of an end that is an own port, as the code prints them
end_borders_sound : {view : View} {network : PlainNetwork} {nets : Nets} (sort : Sort) (own other : End) (b : Border) → IsCleanThroughout view network → AreFinished view network nets → IsConnected network sort own other ⊎ IsConnected network sort other own → Contains (end_borders sort own (behind_of (instance_named network.instances) nets sort other)) b → PrintsBorder view network b
end_borders_sound sort (Of name port) other b clean ready c d = absurd (contains_nothing b d)
end_borders_sound {view = view} {network = network} {nets = nets} sort (Own port) other b clean ready c d =
    let o = origin_in_map (λ (place : List ℕ). record { sort = sort; port = port; place = place }) (behind_of (instance_named network.instances) nets sort other) b d in
    let s = behind_sound sort other o.origin ready o.among in
    rw (← o.gives) (record { at = s.at; place_is = s.text_is; border = border_of_composed clean (record { end = other; connected = c; behind = s.behind }) })

borders_sound : {view : View} {network : PlainNetwork} {nets : Nets} (b : Border) → IsCleanThroughout view network → AreFinished view network nets → Contains (composed_borders network (instance_named network.instances) nets) b → PrintsBorder view network b
borders_sound {view = view} {network = network} {nets = nets} b clean ready c =
    let o = origin_in_flat_map (connection_borders (instance_named network.instances) nets) network.connections b c in
    let k = o.origin in
    let at : IsConnected network k.sort k.source k.destination = record { connection = k; among = o.among; sorted = refl; source = refl; destination = refl } in
    elim (Contains-append_cases (end_borders k.sort k.source (behind_of (instance_named network.instances) nets k.sort k.destination)) (end_borders k.sort k.destination (behind_of (instance_named network.instances) nets k.sort k.source)) b o.has) [
      | inl d ↦ end_borders_sound k.sort k.source k.destination b clean ready (inl at) d
      | inr d ↦ end_borders_sound k.sort k.destination k.source b clean ready (inr at) d
    ]

borders_complete : {view : View} {network : PlainNetwork} {nets : Nets} (sort : Sort) (port : List ℕ) (a : Place) → AreFinished view network nets → IsComposedBorder view network sort port a → Contains (composed_borders network (instance_named network.instances) nets) (record { sort = sort; port = port; place = printed a })
borders_complete {network = network} {nets = nets} sort port a ready border =
    let entry : Border = record { sort = sort; port = port; place = printed a } in
    let places = behind_of (instance_named network.instances) nets sort border.end in
    let borders = connection_borders (instance_named network.instances) nets in
    let listed : Contains (end_borders sort (Own port) places) entry =
    contains_map (λ (place : List ℕ). record { sort = sort; port = port; place = place }) places (printed a) (behind_complete sort border.end a ready border.behind) in
    elim border.connected [
      | inl c ↦ contains_flat_map borders network.connections c.connection entry c.among
          (rw (c.sorted, c.source, c.destination) (Contains-append_left (end_borders sort (Own port) places) (end_borders sort border.end []) entry listed))
      | inr c ↦ contains_flat_map borders network.connections c.connection entry c.among
          (rw (c.sorted, c.source, c.destination) (Contains-append_right (end_borders sort border.end []) (end_borders sort (Own port) places) entry listed))
    ]

-- what is composed are the borders of the network
pub composed_borders_are : {view : View} {network : PlainNetwork} {nets : Nets} → IsCleanThroughout view network → AreFinished view network nets → AreBorders view network (composed_borders network (instance_named network.instances) nets)
composed_borders_are clean ready = record { sound = λ b c. borders_sound b clean ready c; complete = λ sort port a border. borders_complete sort port a ready (border_composed clean border) }

-- a list with the same members has the links too
pub links_kept : {view : View} {network : PlainNetwork} (xs ys : List Link) → AreLinks view network xs → ((l : Link) → Contains xs l → Contains ys l) → ((l : Link) → Contains ys l → Contains xs l) → AreLinks view network ys
links_kept xs ys are kept added = record { sound = λ l c. are.sound l (added l c); complete = λ sort a b link. kept (record { sort = sort; from = printed a; to = printed b }) (are.complete sort a b link) }

pub borders_kept : {view : View} {network : PlainNetwork} (xs ys : List Border) → AreBorders view network xs → ((b : Border) → Contains xs b → Contains ys b) → ((b : Border) → Contains ys b → Contains xs b) → AreBorders view network ys
borders_kept xs ys are kept added = record { sound = λ b c. are.sound b (added b c); complete = λ sort port a border. kept (record { sort = sort; port = port; place = printed a }) (are.complete sort port a border) }
