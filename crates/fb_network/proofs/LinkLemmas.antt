-- The links and borders of a clean network are those that its own connections and its inner links and borders give.
use Rattle.std.proofs.Common.{ℕ, ◌≡◌, List, [], ◌∷◌, Some, ◌⊎◌, inl, inr, refl, sym, ◌∙◌, ap, subst}
use Rattle.fb_tree.specs.{declared.network.Sort.{Sort}, declared.interface.Side.TheVariants.{Input}}
use Rattle.fb_network.specs.{declared.network.End.{End}, declared.network.End.TheVariants.{Own, Of}, Plain.{PlainNetwork}}
use Rattle.fb_network.specs.Network.{View, Place, place_of, IsInner, IsBlock, IsConnected, Step, Holds, Within, IsBorderPlace, OwnPort, PortWithin, IsLeafPlace, BlockPort, LeafWithin, Chain, One, More, IsLink, IsBorder}
use Rattle.fb_network.specs.Clean.{side_at, IsSource, IsDestination, IsCleanThroughout}
use Rattle.fb_network.specs.Composition.{LeavesInner, EntersInner, IsComposed, IsBehind, BlockItself, BehindBorder, IsComposedLink, IsComposedBorder}
use Rattle.fb_network.proofs.Chains.{moved, no_step_from_nothing, no_step_to_nothing, side_at-within, here, clean_inner, no_chain_from_output, composed}

-- a block's name stands for no subapplication
pub no_block_inner : {view : View} {network inner : PlainNetwork} {name type : List ℕ} → IsBlock network name type → IsInner view network name inner → ⊥
no_block_inner b i = let k = b.kind in let j = i.kind in cc

pub no_leaf_nothing : {view : View} {network : PlainNetwork} {a : Place} → IsLeafPlace view network a → a ≡ [] → ⊥
no_leaf_nothing (BlockPort name type port b e) g = cc
no_leaf_nothing (LeafWithin inner name a' i e l) g = cc

pub no_leaf_own : {view : View} {network : PlainNetwork} {a : Place} (port : List ℕ) → IsLeafPlace view network a → a ≡ port ∷ [] → ⊥
no_leaf_own port (BlockPort name type p b e) g = cc
no_leaf_own port (LeafWithin inner name a' i e l) g = no_leaf_nothing l (cc)

-- a leaf place inside a subapplication is one of it
pub leaf_inside : {view : View} {network inner : PlainNetwork} {name : List ℕ} {a : Place} (from : Place) → IsInner view network name inner → IsLeafPlace view network a → a ≡ name ∷ from → IsLeafPlace view inner from
leaf_inside {view = view} {network = network} {inner = inner} {name = name} from i (BlockPort name2 type port b e) g =
    let same_name : name2 ≡ name = cc in
    absurd (no_block_inner (subst (λ (m : List ℕ). IsBlock network m type) same_name b) i)
leaf_inside {view = view} from i (LeafWithin inner2 name2 a' i2 e leaf) g = moved (λ (m : PlainNetwork) (q : Place). IsLeafPlace view m q) i i2 (sym e ∙ g) leaf

-- a leaf place of an instance's port is a block's
pub block_at_leaf : {view : View} {network : PlainNetwork} {a : Place} (sort : Sort) (name port : List ℕ) → IsLeafPlace view network a → a ≡ name ∷ port ∷ [] → IsBehind view sort network (Of name port) a
block_at_leaf {view = view} {network = network} {a = a} sort name port (BlockPort name2 type port2 b e) g =
    let same_name : name2 ≡ name = cc in
    BlockItself name type port (subst (λ (m : List ℕ). IsBlock network m type) same_name b) refl g
block_at_leaf sort name port (LeafWithin inner name2 a' i e leaf) g = absurd (no_leaf_own port leaf (cc))

-- a leaf place at an end of a connection is behind that end
pub behind_end : {view : View} {network : PlainNetwork} {a : Place} (sort : Sort) (end : End) → IsLeafPlace view network a → a ≡ place_of end → IsBehind view sort network end a
behind_end sort (Own x) leaf e = absurd (no_leaf_own x leaf e)
behind_end sort (Of name port) leaf e = block_at_leaf sort name port leaf e

pub behind_before : {view : View} {sort : Sort} {network : PlainNetwork} {a : Place} (end : End) → IsLeafPlace view network a → (a ≡ place_of end) ⊎ LeavesInner view sort network a end → IsBehind view sort network end a
behind_before {sort = sort} end leaf (inl e) = behind_end sort end leaf e
behind_before end leaf (inr l) =
    BehindBorder l.inner l.name l.port l.from l.is_inner l.end_is l.from_is (record { leaf = leaf_inside l.from l.is_inner leaf l.from_is; chain = inr l.chain })

pub behind_after : {view : View} {sort : Sort} {network : PlainNetwork} {b : Place} (end : End) → IsLeafPlace view network b → (b ≡ place_of end) ⊎ EntersInner view sort network end b → IsBehind view sort network end b
behind_after {sort = sort} end leaf (inl e) = behind_end sort end leaf e
behind_after end leaf (inr l) =
    BehindBorder l.inner l.name l.port l.to l.is_inner l.end_is l.to_is (record { leaf = leaf_inside l.to l.is_inner leaf l.to_is; chain = inl l.chain })

-- a link is composed
pub link_composed : {view : View} {network : PlainNetwork} {sort : Sort} {a b : Place} → IsCleanThroughout view network → IsLink view network sort a b → IsComposedLink view network sort a b
link_composed clean link =
    elim (composed clean link.chain) [
      | inl l ↦ inl (record { inner = l.inner; name = l.name; from = l.from; to = l.to; is_inner = l.is_inner; from_is = l.from_is; to_is = l.to_is; link = record { from_leaf = leaf_inside l.from l.is_inner link.from_leaf l.from_is; to_leaf = leaf_inside l.to l.is_inner link.to_leaf l.to_is; chain = l.chain } })
      | inr l ↦ inr (record { source = l.source; destination = l.destination; connected = l.connected; before = behind_before l.source link.from_leaf l.before; after = behind_after l.destination link.to_leaf l.after })
    ]

-- no chain leaves or reaches the empty place
no_chain_from_nothing : {view : View} {sort : Sort} {network : PlainNetwork} {a b : Place} → Chain view sort network a b → a ≡ [] → ⊥
no_chain_from_nothing (One s) g = no_step_from_nothing s g
no_chain_from_nothing (More b s border rest) g = no_step_from_nothing s g

no_chain_to_nothing : {view : View} {sort : Sort} {network : PlainNetwork} {a b : Place} → Chain view sort network a b → b ≡ [] → ⊥
no_chain_to_nothing (One s) g = no_step_to_nothing s g
no_chain_to_nothing (More b s border rest) g = no_chain_to_nothing rest g

-- no chain reaches an own input
no_step_to_input : {view : View} {sort : Sort} {network : PlainNetwork} {a b : Place} (port : List ℕ) → IsCleanThroughout view network → Step view sort network a b → b ≡ port ∷ [] → side_at view sort network b ≡ Some Input → ⊥
no_step_to_input {sort = sort} port clean (Holds s (Own x) c e f) g h = let k = (here clean).destinations sort _ _ c in cc
no_step_to_input {sort = sort} port clean (Holds s (Of j x) c e f) g h = cc
no_step_to_input port clean (Within inner name a' b' i e f s) g h = no_step_to_nothing s (cc)

no_chain_to_input : {view : View} {sort : Sort} {network : PlainNetwork} {a b : Place} (port : List ℕ) → IsCleanThroughout view network → Chain view sort network a b → b ≡ port ∷ [] → side_at view sort network b ≡ Some Input → ⊥
no_chain_to_input port clean (One s) g h = no_step_to_input port clean s g h
no_chain_to_input port clean (More b s border rest) g h = no_chain_to_input port clean rest g h

-- an end that stands for an own port is that port
own_end : (end : End) (port : List ℕ) → port ∷ [] ≡ place_of end → end ≡ Own port
own_end (Own x) port e = let k : x ≡ port = cc in ap (λ (m : List ℕ). Own m) k
own_end (Of i x) port e = absurd (cc)

-- a border is composed
pub border_composed : {view : View} {network : PlainNetwork} {sort : Sort} {port : List ℕ} {place : Place} → IsCleanThroughout view network → IsBorder view network sort port place → IsComposedBorder view network sort port place
border_composed {view = view} {network = network} {sort = sort} {port = port} {place = place} clean border = elim border.chain [ inl c ↦ inward (composed clean c) | inr c ↦ outward (composed clean c) ]
  where
    inward : IsComposed view sort network (port ∷ []) place → IsComposedBorder view network sort port place
    inward (inl l) = absurd (no_chain_from_nothing l.chain (let k = l.from_is in cc))
    inward (inr l) =
        let own : l.source ≡ Own port = elim l.before [ inl e ↦ own_end l.source port e | inr m ↦ absurd (no_chain_from_nothing m.chain (let k = m.from_is in cc)) ] in
        record { end = l.destination; connected = inl (rw own at l.connected); behind = behind_after l.destination border.leaf l.after }

    outward : IsComposed view sort network place (port ∷ []) → IsComposedBorder view network sort port place
    outward (inl l) = absurd (no_chain_to_nothing l.chain (let k = l.to_is in cc))
    outward (inr l) =
        let own : l.destination ≡ Own port = elim l.after [ inl e ↦ own_end l.destination port e | inr m ↦ absurd (no_chain_to_nothing m.chain (let k = m.to_is in cc)) ] in
        record { end = l.source; connected = inr (rw own at l.connected); behind = behind_before l.source border.leaf l.before }

-- a chain of a subapplication is one of the network
pub chain_within : {view : View} {sort : Sort} {network inner : PlainNetwork} {name : List ℕ} {a b : Place} → IsInner view network name inner → Chain view sort inner a b → Chain view sort network (name ∷ a) (name ∷ b)
chain_within {inner = inner} {name = name} i (One s) = One (Within inner name _ _ i refl refl s)
chain_within {inner = inner} {name = name} i (More b s border rest) = More (name ∷ b) (Within inner name _ _ i refl refl s) (PortWithin inner name b i refl border) (chain_within i rest)

-- two chains that meet at a border place are one
pub joined : {view : View} {sort : Sort} {network : PlainNetwork} {a c : Place} (b : Place) → Chain view sort network a b → IsBorderPlace view network b → Chain view sort network b c → Chain view sort network a c
joined b (One s) border rest = More b s border rest
joined b (More m s at more) border rest = More m s at (joined b more border rest)

-- what is behind an end is a leaf place
pub leaf_behind : {view : View} {sort : Sort} {network : PlainNetwork} {place : Place} (end : End) → IsBehind view sort network end place → IsLeafPlace view network place
leaf_behind end (BlockItself name type port b e g) = BlockPort name type port b g
leaf_behind end (BehindBorder inner name port to i e g border) = LeafWithin inner name to i g border.leaf

-- a chain leads from what is behind a source, through a chain or a step from the source
pub chain_from : {view : View} {sort : Sort} {network : PlainNetwork} {a b : Place} (s d : End) → IsCleanThroughout view network → IsConnected network sort s d → IsBehind view sort network s a → Chain view sort network (place_of s) b → Chain view sort network a b
chain_from s d clean c (BlockItself name type port block e g) on = rw g (rw e at on)
chain_from {view = view} {sort = sort} {network = network} {b = b} s d clean c (BehindBorder inner name port to i e g border) on =
    let is_source : IsSource view sort network (Of name port) = rw e at ((here clean).sources sort s d c) in
    let whole : Chain view sort network (name ∷ to) b = elim border.chain [
      | inl chain ↦ absurd (no_chain_from_output port (clean_inner clean i) chain refl (sym (side_at-within sort port [] i) ∙ is_source))
      | inr chain ↦ joined (name ∷ port ∷ []) (chain_within i chain) (PortWithin inner name (port ∷ []) i refl (OwnPort port refl)) (rw e at on)
    ] in
    rw g whole

pub chain_to : {view : View} {sort : Sort} {network : PlainNetwork} {a b : Place} (s d : End) → IsCleanThroughout view network → IsConnected network sort s d → IsBehind view sort network d b → Chain view sort network a (place_of d) → Chain view sort network a b
chain_to s d clean c (BlockItself name type port block e g) on = rw g (rw e at on)
chain_to {view = view} {sort = sort} {network = network} {a = a} s d clean c (BehindBorder inner name port to i e g border) on =
    let is_destination : IsDestination view sort network (Of name port) = rw e at ((here clean).destinations sort s d c) in
    let whole : Chain view sort network a (name ∷ to) = elim border.chain [
      | inr chain ↦ absurd (no_chain_to_input port (clean_inner clean i) chain refl (sym (side_at-within sort port [] i) ∙ is_destination))
      | inl chain ↦ joined (name ∷ port ∷ []) (rw e at on) (PortWithin inner name (port ∷ []) i refl (OwnPort port refl)) (chain_within i chain)
    ] in
    rw g whole

-- what is composed is a link
pub link_of_composed : {view : View} {network : PlainNetwork} {sort : Sort} {a b : Place} → IsCleanThroughout view network → IsComposedLink view network sort a b → IsLink view network sort a b
link_of_composed clean (inl l) =
    record {
      from_leaf = LeafWithin l.inner l.name l.from l.is_inner l.from_is l.link.from_leaf;
      to_leaf = LeafWithin l.inner l.name l.to l.is_inner l.to_is l.link.to_leaf;
      chain = rw (l.from_is, l.to_is) (chain_within l.is_inner l.link.chain);
    }
link_of_composed clean (inr l) =
    record {
      from_leaf = leaf_behind l.source l.before;
      to_leaf = leaf_behind l.destination l.after;
      chain = chain_from l.source l.destination clean l.connected l.before (chain_to l.source l.destination clean l.connected l.after (One (Holds l.source l.destination l.connected refl refl)));
    }

-- what is composed is a border
pub border_of_composed : {view : View} {network : PlainNetwork} {sort : Sort} {port : List ℕ} {place : Place} → IsCleanThroughout view network → IsComposedBorder view network sort port place → IsBorder view network sort port place
border_of_composed {port = port} clean border =
    record {
      leaf = leaf_behind border.end border.behind;
      chain =
          elim border.connected [
            | inl c ↦ inl (chain_to (Own port) border.end clean c border.behind (One (Holds (Own port) border.end c refl refl)))
            | inr c ↦ inr (chain_from border.end (Own port) clean c border.behind (One (Holds border.end (Own port) c refl refl)))
          ];
    }
