-- A chain of a clean network, by the connections that it passes.
use Rattle.fb_laws.proofs.Common.{arith, ℕ, ◌≡◌, List, [], ◌∷◌, ◌++◌, map, Some, ◌⊎◌, inl, inr, refl, sym, ◌∙◌, subst, Sort, Input, PlainNetwork, View, Place, IsInner, IsConnected, Step, Within, IsBorderPlace, IsLeafPlace, Chain, One, More, side_at, IsCleanThroughout, filter, filter-append}
use Rattle.fb_types.specs.{Network.declared.network.End.{End}, Network.declared.network.End.TheVariants.{Own, Of}, Network.Network.{IsLink, place_of, Holds}}
use Rattle.fb_types.proofs.{Network.Chains.{no_step_from_nothing, no_step_to_nothing, moved, here, input_step, border_inside, no_chain_from_output, inner_at_border}, Network.LinkLemmas.{leaf_inside}}
use Rattle.fb_laws.specs.Chains.{BordersAreComposed, CrossesOnce, IsAfter, IsBefore, LinksAreComposed, Passed, StaysInside, border_after, border_before, by_inner_link, inside, is_own, nothing_after, nothing_before, own, passed_at, passed_by}

-- ---- a chain from an input inside an instance stays inside

data StepStays (view : View) (sort : Sort) (inner : PlainNetwork) (name : List ℕ) (from : Place) : Place → Passed → Type 0 where
  step_to : {to : Place} (step : Step view sort inner from to) → StepStays view sort inner name from (name ∷ to) (inside name (passed_at step))

step_stays : {view : View} {sort : Sort} {network inner : PlainNetwork} {name : List ℕ} {a b : Place} (from : Place) → IsCleanThroughout view network → IsInner view network name inner → (s : Step view sort network a b) → a ≡ name ∷ from → (from ≡ [] → ⊥) → side_at view sort network a ≡ Some Input → StepStays view sort inner name from b (passed_at s)
step_stays {sort = sort} from clean i (Holds (Own x) d c e f) g n h = absurd (n (cc))
step_stays {sort = sort} from clean i (Holds (Of j x) d c e f) g n h = let k = (here clean).sources sort _ _ c in absurd (cc)
step_stays {view = view} {sort = sort} {name = name} from clean i (Within inner2 name2 a' b' i2 e f s) g n h =
    let same_name : name2 ≡ name = cc in
    rw (f, same_name) (moved (λ (m : PlainNetwork) (q : Place). StepStays view sort m name q (name ∷ b') (inside name (passed_at s))) i i2 (sym e ∙ g) (step_to s))

data ChainStays (view : View) (sort : Sort) (inner : PlainNetwork) (name : List ℕ) (from : Place) : Place → List Passed → Type 0 where
  chain_to : {to : Place} (chain : Chain view sort inner from to) → ChainStays view sort inner name from (name ∷ to) (map (inside name) (passed_by chain))

one_stays : {view : View} {sort : Sort} {inner : PlainNetwork} {name : List ℕ} {from b : Place} {p : Passed} → StepStays view sort inner name from b p → ChainStays view sort inner name from b (p ∷ [])
one_stays (step_to step) = chain_to (One step)

more_stays : {view : View} {sort : Sort} {network inner : PlainNetwork} {name : List ℕ} {from b c : Place} {p : Passed} {list : List Passed} → IsInner view network name inner → IsBorderPlace view network b → StepStays view sort inner name from b p → ((to : Place) → b ≡ name ∷ to → (to ≡ [] → ⊥) → ChainStays view sort inner name to c list) → ChainStays view sort inner name from c (p ∷ list)
more_stays {view = view} {sort = sort} {inner = inner} {name = name} {from = from} {c = c} {list = list} i border (step_to {to = to} step) on = by (on to refl (no_step_to_nothing step))
  where
    by : {d : Place} {more : List Passed} → ChainStays view sort inner name to d more → ChainStays view sort inner name from d (inside name (passed_at step) ∷ more)
    by (chain_to chain) = chain_to (More to step (border_inside to i border refl (no_step_to_nothing step)) chain)

chain_stays : {view : View} {sort : Sort} {network inner : PlainNetwork} {name : List ℕ} {a b : Place} (from : Place) → IsCleanThroughout view network → IsInner view network name inner → (c : Chain view sort network a b) → a ≡ name ∷ from → (from ≡ [] → ⊥) → side_at view sort network a ≡ Some Input → ChainStays view sort inner name from b (passed_by c)
chain_stays from clean i (One s) g n h = one_stays (step_stays from clean i s g n h)
chain_stays from clean i (More b s border rest) g n h = more_stays i border (step_stays from clean i s g n h) (λ to e m. chain_stays to clean i rest e m (input_step clean s h))

-- ---- the parts of any chain

data Before (view : View) (sort : Sort) (network : PlainNetwork) : Place → End → List Passed → Type 0 where
  at_source : (source : End) → Before view sort network (place_of source) source []
  leaves : {name port : List ℕ} {inner : PlainNetwork} {from : Place} → IsInner view network name inner → (chain : Chain view sort inner from (port ∷ [])) → Before view sort network (name ∷ from) (Of name port) (map (inside name) (passed_by chain))

data After (view : View) (sort : Sort) (network : PlainNetwork) : End → Place → List Passed → Type 0 where
  at_destination : (destination : End) → After view sort network destination (place_of destination) []
  enters : {name port : List ℕ} {inner : PlainNetwork} {to : Place} → IsInner view network name inner → (chain : Chain view sort inner (port ∷ []) to) → After view sort network (Of name port) (name ∷ to) (map (inside name) (passed_by chain))

-- it is inside an instance, or passes one connection of the network itself
data Parts (view : View) (sort : Sort) (network : PlainNetwork) : Place → Place → List Passed → Type 0 where
  within : {name : List ℕ} {inner : PlainNetwork} {from to : Place} → IsInner view network name inner → (chain : Chain view sort inner from to) → Parts view sort network (name ∷ from) (name ∷ to) (map (inside name) (passed_by chain))
  across : {a b : Place} {before after : List Passed} (source destination : End) → IsConnected network sort source destination → Before view sort network a source before → After view sort network destination b after → Parts view sort network a b (before ++ (own source destination ∷ after))

-- a step inside an instance before a chain inside it, which two look-ups find
longer : {view : View} {sort : Sort} {network inner inner2 : PlainNetwork} {name name2 : List ℕ} {from from2 to x : Place} (P : List ℕ → List Passed → Type 0) → IsInner view network name inner → IsInner view network name2 inner2 → name2 ∷ from2 ≡ name ∷ to → (s : Step view sort inner from to) → IsBorderPlace view network (name2 ∷ from2) → ((on : Chain view sort inner from x) → P name (map (inside name) (passed_by on))) → (chain : Chain view sort inner2 from2 x) → P name2 (inside name (passed_at s) ∷ map (inside name2) (passed_by chain))
longer {view = view} {sort = sort} {name = name} {name2 = name2} {to = to} {x = x} P i i2 f s border made =
    let same_name : name2 ≡ name = cc in
    rw same_name (moved (λ (m : PlainNetwork) (q : Place). (chain : Chain view sort m q x) → P name (inside name (passed_at s) ∷ map (inside name) (passed_by chain))) i2 i (sym f) (λ chain. made (More to s (border_inside to i border f (no_step_to_nothing s)) chain)))

-- a step inside an instance before what leads to the source
left_by : {view : View} {sort : Sort} {network inner : PlainNetwork} {name : List ℕ} {b : Place} {source : End} {list : List Passed} (from to : Place) → IsInner view network name inner → b ≡ name ∷ to → (s : Step view sort inner from to) → IsBorderPlace view network b → Before view sort network b source list → Before view sort network (name ∷ from) source (inside name (passed_at s) ∷ list)
left_by from to i f s border (at_source (Own p)) = absurd (no_step_to_nothing s (cc))
left_by {view = view} {sort = sort} {network = network} {inner = inner} {name = name} from to i f s border (at_source (Of j p)) =
    let same_name : j ≡ name = cc in
    let same_to : to ≡ p ∷ [] = cc in
    rw same_name (subst (λ (q : Place). (t : Step view sort inner from q) → Before view sort network (name ∷ from) (Of name p) (inside name (passed_at t) ∷ [])) (sym same_to) (λ t. leaves i (One t)) s)
left_by {view = view} {sort = sort} {network = network} {name = name} from to i f s border (leaves {port = port} i2 chain) = longer (λ (n : List ℕ) (l : List Passed). Before view sort network (name ∷ from) (Of n port) l) i i2 f s border (leaves i) chain

-- a step inside an instance before a chain that is in parts already
step_before : {view : View} {sort : Sort} {network inner : PlainNetwork} {name : List ℕ} {b c : Place} {list : List Passed} (from to : Place) → IsInner view network name inner → b ≡ name ∷ to → (s : Step view sort inner from to) → IsBorderPlace view network b → Parts view sort network b c list → Parts view sort network (name ∷ from) c (inside name (passed_at s) ∷ list)
step_before {view = view} {sort = sort} {network = network} {name = name} from to i f s border (within {to = x} i2 chain) = longer (λ (n : List ℕ) (l : List Passed). Parts view sort network (name ∷ from) (n ∷ x) l) i i2 f s border (within i) chain
step_before from to i f s border (across source destination k before after) = across source destination k (left_by from to i f s border before) after

-- a connection of the network itself before a chain
entered : {view : View} {sort : Sort} {network inner : PlainNetwork} {name port : List ℕ} {c : Place} {list : List Passed} (s : End) → IsConnected network sort s (Of name port) → IsInner view network name inner → ChainStays view sort inner name (port ∷ []) c list → Parts view sort network (place_of s) c (own s (Of name port) ∷ list)
entered {name = name} {port = port} s k i (chain_to chain) = across s (Of name port) k (at_source s) (enters i chain)

connection_before : {view : View} {sort : Sort} {network : PlainNetwork} {b c : Place} (s d : End) → IsCleanThroughout view network → IsConnected network sort s d → b ≡ place_of d → IsBorderPlace view network b → (rest : Chain view sort network b c) → Parts view sort network (place_of s) c (own s d ∷ passed_by rest)
connection_before {sort = sort} s (Own y) clean k f border rest = absurd (no_chain_from_output y clean rest f (rw f ((here clean).destinations sort _ _ k)))
connection_before {sort = sort} s (Of j y) clean k f border rest =
    let found = inner_at_border j y border f in
    entered s k found.1 (chain_stays (y ∷ []) clean found.1 rest f (λ e. cc) (rw f ((here clean).destinations sort _ _ k)))

-- a chain of a clean network is in parts
parts : {view : View} {sort : Sort} {network : PlainNetwork} {a b : Place} → IsCleanThroughout view network → (c : Chain view sort network a b) → Parts view sort network a b (passed_by c)
parts clean (One (Holds s d k e f)) = rw (e, f) (across s d k (at_source s) (at_destination d))
parts clean (One (Within inner name a' b' i e f s)) = rw (e, f) (within i (One s))
parts clean (More b (Holds s d k e f) border rest) = rw e (connection_before s d clean k f border rest)
parts clean (More b (Within inner name a' b' i e f s) border rest) = rw e (step_before a' b' i f s border (parts clean rest))

-- ---- the one connection of the network itself

-- what is passed inside an instance is none of the network itself
none_own : (name : List ℕ) (list : List Passed) → filter is_own (map (inside name) list) ≡ []
none_own name [] = refl
none_own name (p ∷ list) = none_own name list

crossed : {view : View} {sort : Sort} {network : PlainNetwork} {a b : Place} {before after : List Passed} (s d : End) → IsConnected network sort s d → IsBefore view sort network a s before → IsAfter view sort network d b after → CrossesOnce view sort network a b (before ++ (own s d ∷ after))
crossed {before = before} {after = after} s d k p q = record { source = s; destination = d; connected = k; once = grind (arith, filter-append, none_own); before = before; after = after; whole = refl; is_before = p; is_after = q }

-- ---- chains after links and borders

no_chain_from_nothing : {view : View} {sort : Sort} {network : PlainNetwork} {a b : Place} → Chain view sort network a b → a ≡ [] → ⊥
no_chain_from_nothing chain g = grind (arith, no_step_from_nothing)

no_chain_to_nothing : {view : View} {sort : Sort} {network : PlainNetwork} {a b : Place} → Chain view sort network a b → b ≡ [] → ⊥
no_chain_to_nothing (One s) g = no_step_to_nothing s g
no_chain_to_nothing (More b s border rest) g = no_chain_to_nothing rest g

-- from and to a port of a block, or an own port

from_edge : {view : View} {sort : Sort} {network : PlainNetwork} {a : Place} {source : End} {list : List Passed} (port : List ℕ) → IsLeafPlace view network a ⊎ (a ≡ port ∷ []) → Before view sort network a source list → IsBefore view sort network a source list
from_edge port edge (at_source source) = nothing_before source
from_edge port (inl leaf) (leaves {from = from} i chain) = border_before i (record { leaf = leaf_inside from i leaf refl; chain = inr chain }) chain refl
from_edge port (inr is) (leaves i chain) = absurd (no_chain_from_nothing chain (cc))

to_edge : {view : View} {sort : Sort} {network : PlainNetwork} {b : Place} {destination : End} {list : List Passed} (port : List ℕ) → IsLeafPlace view network b ⊎ (b ≡ port ∷ []) → After view sort network destination b list → IsAfter view sort network destination b list
to_edge port edge (at_destination destination) = nothing_after destination
to_edge port (inl leaf) (enters {to = to} i chain) = border_after i (record { leaf = leaf_inside to i leaf refl; chain = inl chain }) chain refl
to_edge port (inr is) (enters i chain) = absurd (no_chain_to_nothing chain (cc))

link_parts : {view : View} {sort : Sort} {network : PlainNetwork} {a b : Place} {list : List Passed} → IsLeafPlace view network a → IsLeafPlace view network b → Parts view sort network a b list → StaysInside view sort network a b list ⊎ CrossesOnce view sort network a b list
link_parts {view = view} {sort = sort} first last (within {inner = inner} {from = from} {to = to} i chain) =
    let link : IsLink view inner sort from to = record { from_leaf = leaf_inside from i first refl; to_leaf = leaf_inside to i last refl; chain = chain } in
    inl (by_inner_link i link)
link_parts first last (across source destination k before after) = inr (crossed source destination k (from_edge [] (inl first) before) (to_edge [] (inl last) after))

pub links_composed : {view : View} {network : PlainNetwork} → IsCleanThroughout view network → LinksAreComposed view network
links_composed clean sort a b link = link_parts link.from_leaf link.to_leaf (parts clean link.chain)

inward : {view : View} {sort : Sort} {network : PlainNetwork} {place : Place} {list : List Passed} (port : List ℕ) → IsLeafPlace view network place → Parts view sort network (port ∷ []) place list → CrossesOnce view sort network (port ∷ []) place list
inward port leaf (within i chain) = absurd (no_chain_from_nothing chain refl)
inward port leaf (across source destination k before after) = crossed source destination k (from_edge port (inr refl) before) (to_edge port (inl leaf) after)

outward : {view : View} {sort : Sort} {network : PlainNetwork} {place : Place} {list : List Passed} (port : List ℕ) → IsLeafPlace view network place → Parts view sort network place (port ∷ []) list → CrossesOnce view sort network place (port ∷ []) list
outward port leaf (within i chain) = absurd (no_chain_to_nothing chain refl)
outward port leaf (across source destination k before after) = crossed source destination k (from_edge port (inl leaf) before) (to_edge port (inr refl) after)

pub borders_composed : {view : View} {network : PlainNetwork} → IsCleanThroughout view network → BordersAreComposed view network
borders_composed {view} {network} clean = grind (arith, inward, parts, outward)
