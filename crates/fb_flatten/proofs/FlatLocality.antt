-- The flat network of a network is found by the networks alone that it rests on.
use Rattle.std.proofs.Common.{ℕ, ◌≡◌, Bool, List, [], ◌∷◌, Option, Some, inl, inr, sym, ◌∙◌, ap, arith}
use Rattle.fb_types.proofs.Text.Members.{contains_here, contains_later, passes_in_find}
use Rattle.std.specs.{Prelude.{Contains, find, ◌&&◌, option_and_then}, BTreeMap.{is_at}}
use Rattle.fb_types.specs.{Text.Order.{name_cmp}, Tree.declared.network.Sort.{Sort}, Tree.declared.network.Sort.TheVariants.{Adapter}}
use Rattle.fb_types.specs.{Network.Sorts.{same_sort}, Network.declared.network.Port.{Port}, Network.declared.network.Instance.{Instance}}
use Rattle.fb_types.specs.{Network.Plain.{PlainNetwork}, Network.PlainFlat.{PlainFlat}, Network.declared.flat.Link.{Link}}
use Rattle.fb_types.specs.Network.declared.flat.Border.{Border}
use Rattle.fb_types.specs.Network.Network.{View, Place, instance_named, IsInner, Step, Holds, Within as Inside, IsBorderPlace, OwnPort, PortWithin, IsLeafPlace, BlockPort, LeafWithin, Chain, One, More, IsLink, IsBorder}
use Rattle.fb_types.specs.{Network.Flat.{AreLinks, AreBorders}, Network.FlatNet.{IsFlat}}
use Rattle.fb_types.specs.{Network.Clean.{port_named, type_of, adapter_name_at, adapter_at}, Network.NetLink.{IsNetLink, Direct, FromPlug, ToPlug}}
use Rattle.fb_types.specs.{Network.Instances.{Held, AreInstances, NoInstance, ThenBlock, ThenSubapplication}, Network.Count.{IsCount}}
use Rattle.fb_flatten.specs.Locality.{Within, IsClosed, SameNetworks, SameFlats}

-- what a search finds stands in the list
pub found : {X : Type 0} (p : X → Bool) (xs : List X) (x : X) → find p xs ≡ Some x → Contains xs x
found p xs x e = (passes_in_find p xs x e).among

-- the steps of a look-up that gives something
pub reached : {X Y : Type 0} (f : X → Option Y) (o : Option X) (y : Y) → option_and_then f o ≡ Some y → (x : X) × (o ≡ Some x) × (f x ≡ Some y)
reached f o y e = grind arith

-- the inner network is the same, and within the names
inner_known : {a : View} {known : List ℕ → Type 0} {network inner : PlainNetwork} {name : List ℕ} → IsClosed a known → Within known network → IsInner a network name inner → Within known inner
inner_known {network = network} {inner = inner} {name = name} closed within i =
    closed i.instance.type_name inner (within.types i.instance (found (λ (j : Instance). is_at (name_cmp j.name) name) network.instances i.instance i.first)) i.declared

inner_there : {a b : View} {known : List ℕ → Type 0} {network inner : PlainNetwork} {name : List ℕ} → SameNetworks known a b → Within known network → IsInner a network name inner → IsInner b network name inner
inner_there {network = network} {name = name} same within i =
    record {
      instance = i.instance;
      first = i.first;
      kind = i.kind;
      declared = sym (same i.instance.type_name (within.types i.instance (found (λ (j : Instance). is_at (name_cmp j.name) name) network.instances i.instance i.first))) ∙ i.declared;
    }

step_there : {a b : View} {known : List ℕ → Type 0} {sort : Sort} {network : PlainNetwork} {x y : Place} → IsClosed a known → SameNetworks known a b → Within known network → Step a sort network x y → Step b sort network x y
step_there closed same within (Holds s d c e f) = Holds s d c e f
step_there closed same within (Inside inner name x' y' i e f s) =
    Inside inner name x' y' (inner_there same within i) e f (step_there closed same (inner_known closed within i) s)

border_place_there : {a b : View} {known : List ℕ → Type 0} {network : PlainNetwork} {x : Place} → IsClosed a known → SameNetworks known a b → Within known network → IsBorderPlace a network x → IsBorderPlace b network x
border_place_there closed same within (OwnPort port e) = OwnPort port e
border_place_there closed same within (PortWithin inner name x' i e p) =
    PortWithin inner name x' (inner_there same within i) e (border_place_there closed same (inner_known closed within i) p)

leaf_there : {a b : View} {known : List ℕ → Type 0} {network : PlainNetwork} {x : Place} → IsClosed a known → SameNetworks known a b → Within known network → IsLeafPlace a network x → IsLeafPlace b network x
leaf_there closed same within (BlockPort name type port k e) = BlockPort name type port k e
leaf_there closed same within (LeafWithin inner name x' i e p) =
    LeafWithin inner name x' (inner_there same within i) e (leaf_there closed same (inner_known closed within i) p)

chain_there : {a b : View} {known : List ℕ → Type 0} {sort : Sort} {network : PlainNetwork} {x y : Place} → IsClosed a known → SameNetworks known a b → Within known network → Chain a sort network x y → Chain b sort network x y
chain_there closed same within (One s) = One (step_there closed same within s)
chain_there closed same within (More m s p rest) =
    More m (step_there closed same within s) (border_place_there closed same within p) (chain_there closed same within rest)

link_there : {a b : View} {known : List ℕ → Type 0} {sort : Sort} {network : PlainNetwork} {x y : Place} → IsClosed a known → SameNetworks known a b → Within known network → IsLink a network sort x y → IsLink b network sort x y
link_there closed same within l =
    record {
      from_leaf = leaf_there closed same within l.from_leaf;
      to_leaf = leaf_there closed same within l.to_leaf;
      chain = chain_there closed same within l.chain;
    }

border_there : {a b : View} {known : List ℕ → Type 0} {network : PlainNetwork} {sort : Sort} {port : List ℕ} {x : Place} → IsClosed a known → SameNetworks known a b → Within known network → IsBorder a network sort port x → IsBorder b network sort port x
border_there closed same within l =
    record { leaf = leaf_there closed same within l.leaf; chain = elim l.chain [ inl c ↦ inl (chain_there closed same within c) | inr c ↦ inr (chain_there closed same within c) ] }

-- the adapter type of a place is among the names, and the same
adapter_name_there : {a b : View} {known : List ℕ → Type 0} (network : PlainNetwork) (x : Place) (name : List ℕ) → IsClosed a known → SameNetworks known a b → Within known network → adapter_name_at a network x ≡ Some name → known name × (adapter_name_at b network x ≡ Some name)
adapter_name_there network [] name closed same within e = absurd (cc)
adapter_name_there network (port ∷ []) name closed same within e =
    let r = reached (λ (p : Port). p.adapter) (port_named network.ports Adapter port) name e in
    (within.adapters r.0 name (found (λ (p : Port). same_sort p.sort Adapter && is_at (name_cmp p.name) port) network.ports r.0 r.1) r.2, e)
adapter_name_there {a = a} {b = b} network (at ∷ (y ∷ x)) name closed same within e =
    let r = reached (λ (type : PlainNetwork). adapter_name_at a type (y ∷ x)) (type_of a network at) name e in
    let q = reached (λ (i : Instance). a i.type_name) (instance_named network.instances at) r.0 r.1 in
    let is_type = within.types q.0 (found (λ (j : Instance). is_at (name_cmp j.name) at) network.instances q.0 q.1) in
    let inner = adapter_name_there r.0 (y ∷ x) name closed same (closed q.0.type_name r.0 is_type q.2) r.2 in
    let type_there : type_of b network at ≡ Some r.0 = ap (option_and_then (λ (i : Instance). b i.type_name)) q.1 ∙ sym (same q.0.type_name is_type) ∙ q.2 in
    (inner.0, ap (option_and_then (λ (type : PlainNetwork). adapter_name_at b type (y ∷ x))) type_there ∙ inner.1)

adapter_there : {a b : View} {known : List ℕ → Type 0} (network adapter : PlainNetwork) (x : Place) → IsClosed a known → SameNetworks known a b → Within known network → adapter_at a network x ≡ Some adapter → adapter_at b network x ≡ Some adapter
adapter_there {a = a} {b = b} network adapter x closed same within e =
    let r = reached a (adapter_name_at a network x) adapter e in
    let n = adapter_name_there network x r.0 closed same within r.1 in
    ap (option_and_then b) n.1 ∙ sym (same r.0 n.0) ∙ r.2

net_link_there : {a b : View} {known : List ℕ → Type 0} {sort : Sort} {network : PlainNetwork} {x y : Place} → IsClosed a known → SameNetworks known a b → Within known network → IsNetLink a network sort x y → IsNetLink b network sort x y
net_link_there closed same within (Direct n link) = Direct n (link_there closed same within link)
net_link_there {network = network} closed same within (FromPlug plug socket adapter port link at among k s f g) =
    FromPlug plug socket adapter port (link_there closed same within link) (adapter_there network adapter plug closed same within at) among k s f g
net_link_there {network = network} closed same within (ToPlug plug socket adapter port link at among k s f g) =
    ToPlug plug socket adapter port (link_there closed same within link) (adapter_there network adapter plug closed same within at) among k s f g

pub instances_there : {a b : View} {known : List ℕ → Type 0} {list : List Instance} {held : List Held} → IsClosed a known → SameNetworks known a b → ((i : Instance) → Contains list i → known i.type_name) → AreInstances a list held → AreInstances b list held
instances_there closed same within NoInstance = NoInstance
instances_there closed same within (ThenBlock i rest others k more) =
    ThenBlock i rest others k (instances_there closed same (λ j c. within j (contains_later i rest j c)) more)
instances_there closed same within (ThenSubapplication i rest inner own others k d inside more) =
    let is_type = within i (contains_here i rest) in
    ThenSubapplication i rest inner own others k (sym (same i.type_name is_type) ∙ d)
    (instances_there closed same (closed i.type_name inner is_type d).types inside)
    (instances_there closed same (λ j c. within j (contains_later i rest j c)) more)

links_there : {a b : View} {known : List ℕ → Type 0} {network : PlainNetwork} {links : List Link} → IsClosed a known → SameNetworks known a b → IsClosed b known → SameNetworks known b a → Within known network → AreLinks a network links → AreLinks b network links
links_there closed same closed' same' within are = record {
  sound = λ l c.
      let p = are.sound l c in
      record { from_place = p.from_place; to_place = p.to_place; from_is = p.from_is; to_is = p.to_is; link = net_link_there closed same within p.link };
  complete = λ sort x y l. are.complete sort x y (net_link_there closed' same' within l);
}

borders_there : {a b : View} {known : List ℕ → Type 0} {network : PlainNetwork} {borders : List Border} → IsClosed a known → SameNetworks known a b → IsClosed b known → SameNetworks known b a → Within known network → AreBorders a network borders → AreBorders b network borders
borders_there closed same closed' same' within are = record {
  sound = λ l c. let p = are.sound l c in record { at = p.at; place_is = p.place_is; border = border_there closed same within p.border };
  complete = λ sort port x l. are.complete sort port x (border_there closed' same' within l);
}

flat_there : {a b : View} {known : List ℕ → Type 0} {network : PlainNetwork} {flat : PlainFlat} → IsClosed a known → SameNetworks known a b → IsClosed b known → SameNetworks known b a → Within known network → IsFlat a network flat → IsFlat b network flat
flat_there closed same closed' same' within f =
    record {
      blocks = record { held = f.blocks.held; instances = instances_there closed same within.types f.blocks.instances; blocks_are = f.blocks.blocks_are };
      links = links_there closed same closed' same' within f.links;
      borders = borders_there closed same closed' same' within f.borders;
      links_sorted = f.links_sorted;
      borders_sorted = f.borders_sorted;
    }

count_there : {a b : View} {known : List ℕ → Type 0} {network : PlainNetwork} {count : ℕ} → IsClosed a known → SameNetworks known a b → Within known network → IsCount a network.instances count → IsCount b network.instances count
count_there closed same within c =
    record { held = c.held; instances = instances_there closed same within.types c.instances; count_is = c.count_is }

-- the other view is closed as well
pub closed_there : {a b : View} {known : List ℕ → Type 0} → IsClosed a known → SameNetworks known a b → IsClosed b known
closed_there closed same name network k d = closed name network k (same name k ∙ d)

pub same_back : {a b : View} {known : List ℕ → Type 0} → SameNetworks known a b → SameNetworks known b a
same_back same name k = sym (same name k)

-- both views have the same flat networks of what is within the names
pub same_flats : {a b : View} {known : List ℕ → Type 0} {network : PlainNetwork} → IsClosed a known → SameNetworks known a b → Within known network → SameFlats a b network
same_flats {a = a} {b = b} {known = known} {network = network} closed same within =
    let closed' = closed_there closed same in
    let same' = same_back same in
    record {
      flats = λ flat. (flat_there closed same closed' same' within, flat_there closed' same' closed same within);
      instances = λ held. (instances_there closed same within.types, instances_there closed' same' within.types);
      counts = λ count. (count_there closed same within, count_there closed' same' within);
    }
