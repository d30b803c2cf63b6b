-- A chain of a clean network lies inside one subapplication, or crosses one connection of its own.
use Rattle.std.proofs.Common.{ℕ, ◌≡◌, List, [], ◌∷◌, Some, ◌⊎◌, inl, inr, refl, sym, ◌∙◌, ap, subst}
use Rattle.fb_tree.specs.{declared.network.Sort.{Sort}, declared.interface.Side.TheVariants.{Input, Output}}
use Rattle.fb_network.specs.{declared.network.End.{End}, declared.network.End.TheVariants.{Own, Of}, Plain.{PlainNetwork}}
use Rattle.fb_network.specs.Network.{View, Place, place_of, IsInner, IsConnected, Step, Holds, Within, IsBorderPlace, OwnPort, PortWithin, Chain, One, More}
use Rattle.fb_network.specs.{Clean.{type_of, side_at, IsClean, IsCleanThroughout, CleanThroughout}, Composition.{LeavesInner, Crosses, IsComposed}}

-- no step leaves the empty place
pub no_step_from_nothing : {view : View} {sort : Sort} {network : PlainNetwork} {a b : Place} → Step view sort network a b → a ≡ [] → ⊥
no_step_from_nothing (Holds (Own x) d c e f) n = cc
no_step_from_nothing (Holds (Of i x) d c e f) n = cc
no_step_from_nothing (Within inner name a' b' i e f s) n = cc

-- no step reaches the empty place
pub no_step_to_nothing : {view : View} {sort : Sort} {network : PlainNetwork} {a b : Place} → Step view sort network a b → b ≡ [] → ⊥
no_step_to_nothing (Holds s (Own x) c e f) n = cc
no_step_to_nothing (Holds s (Of i x) c e f) n = cc
no_step_to_nothing (Within inner name a' b' i e f s) n = cc

-- a name stands for one subapplication
pub same_inner : {view : View} {network n m : PlainNetwork} {name : List ℕ} → IsInner view network name n → IsInner view network name m → n ≡ m
same_inner p q = cc

-- what holds of a place inside a subapplication, which two look-ups find
pub moved : {view : View} {network inner inner2 : PlainNetwork} {name name2 : List ℕ} {from from2 : Place} (P : PlainNetwork → Place → Type 0) → IsInner view network name inner → IsInner view network name2 inner2 → name2 ∷ from2 ≡ name ∷ from → P inner2 from2 → P inner from
moved {view = view} {network = network} {inner = inner} {inner2 = inner2} {name = name} {name2 = name2} {from = from} {from2 = from2} P i i2 e p =
    let same_name : name2 ≡ name = cc in
    let same_from : from2 ≡ from = cc in
    let same : inner2 ≡ inner = same_inner (subst (λ (m : List ℕ). IsInner view network m inner2) same_name i2) i in
    subst (λ (m : PlainNetwork). P m from) same (subst (λ (q : Place). P inner2 q) same_from p)

-- the type of a subapplication instance is its declaration
pub type_of-inner : {view : View} {network inner : PlainNetwork} {name : List ℕ} → IsInner view network name inner → type_of view network name ≡ Some inner
type_of-inner p = rw (p.first) p.declared

-- a place inside a subapplication has the side that it has there
pub side_at-within : {view : View} {network inner : PlainNetwork} {name : List ℕ} (sort : Sort) (x : List ℕ) (a : Place) → IsInner view network name inner → side_at view sort network (name ∷ (x ∷ a)) ≡ side_at view sort inner (x ∷ a)
side_at-within sort x a p = rw (type_of-inner p) refl

-- a network that is clean throughout is clean, and so are its subapplications
pub here : {view : View} {network : PlainNetwork} → IsCleanThroughout view network → IsClean view network
here (CleanThroughout clean more) = clean

pub clean_inner : {view : View} {network inner : PlainNetwork} {name : List ℕ} → IsCleanThroughout view network → IsInner view network name inner → IsCleanThroughout view inner
clean_inner {inner = inner} {name = name} (CleanThroughout clean more) p = more name inner p

-- a place inside that is no empty place has the side that it has there
pub side_at-inner : {view : View} {network inner : PlainNetwork} {name : List ℕ} (sort : Sort) (a : Place) → (a ≡ [] → ⊥) → IsInner view network name inner → side_at view sort network (name ∷ a) ≡ side_at view sort inner a
side_at-inner sort [] n p = absurd (n refl)
side_at-inner sort (x ∷ a) n p = side_at-within sort x a p

-- a step from an input leads to an input
pub input_step : {view : View} {sort : Sort} {network : PlainNetwork} {a b : Place} → IsCleanThroughout view network → Step view sort network a b → side_at view sort network a ≡ Some Input → side_at view sort network b ≡ Some Input
input_step {sort = sort} clean (Holds (Own x) (Own y) c e f) h = absurd ((here clean).no_pass_through sort x y c)
input_step {sort = sort} clean (Holds (Own x) (Of i y) c e f) h = rw f ((here clean).destinations sort _ _ c)
input_step {sort = sort} clean (Holds (Of i x) d c e f) h = let g = (here clean).sources sort _ _ c in cc
input_step {view = view} {sort = sort} {network = network} clean (Within inner name a' b' i e f s) h =
    let into : side_at view sort inner a' ≡ Some Input = sym (side_at-inner sort a' (no_step_from_nothing s) i) ∙ (rw e at h) in
    rw f (side_at-inner sort b' (no_step_to_nothing s) i ∙ input_step (clean_inner clean i) s into)

-- what a step or a chain from inside a subapplication reaches, where it stays inside
pub record Reaches (Leads : Place → Type 0) (name : List ℕ) (b : Place) : Type 0 where
  pub to : Place
  pub to_is : b ≡ name ∷ to
  pub leads : Leads to

-- a step from an input inside a subapplication stays inside
pub step_inside : {view : View} {sort : Sort} {network inner : PlainNetwork} {name : List ℕ} {a b : Place} (from : Place) → IsCleanThroughout view network → IsInner view network name inner → Step view sort network a b → a ≡ name ∷ from → (from ≡ [] → ⊥) → side_at view sort network a ≡ Some Input → Reaches (Step view sort inner from) name b
step_inside {sort = sort} from clean i (Holds (Own x) d c e f) g n h = absurd (n (cc))
step_inside {sort = sort} from clean i (Holds (Of j x) d c e f) g n h = let k = (here clean).sources sort _ _ c in absurd (cc)
step_inside {view = view} {sort = sort} from clean i (Within inner2 name2 a' b' i2 e f s) g n h =
    record { to = b'; to_is = cc; leads = moved (λ (m : PlainNetwork) (q : Place). Step view sort m q b') i i2 (sym e ∙ g) s }

-- a border place inside a subapplication is one of it
pub border_inside : {view : View} {network inner : PlainNetwork} {name : List ℕ} {a : Place} (from : Place) → IsInner view network name inner → IsBorderPlace view network a → a ≡ name ∷ from → (from ≡ [] → ⊥) → IsBorderPlace view inner from
border_inside from i (OwnPort port e) g n = absurd (n (cc))
border_inside {view = view} from i (PortWithin inner2 name2 a' i2 e border) g n = moved (λ (m : PlainNetwork) (q : Place). IsBorderPlace view m q) i i2 (sym e ∙ g) border

-- a chain from an input inside a subapplication stays inside
pub stays_inside : {view : View} {sort : Sort} {network inner : PlainNetwork} {name : List ℕ} {a b : Place} (from : Place) → IsCleanThroughout view network → IsInner view network name inner → Chain view sort network a b → a ≡ name ∷ from → (from ≡ [] → ⊥) → side_at view sort network a ≡ Some Input → Reaches (Chain view sort inner from) name b
stays_inside from clean i (One s) g n h =
    let t = step_inside from clean i s g n h in
    record { to = t.to; to_is = t.to_is; leads = One t.leads }
stays_inside {view = view} {sort = sort} {network = network} {inner = inner} from clean i (More b s border rest) g n h =
    let t = step_inside from clean i s g n h in
    let on = stays_inside t.to clean i rest t.to_is (no_step_to_nothing t.leads) (input_step clean s h) in
    record { to = on.to; to_is = on.to_is; leads = More t.to t.leads (border_inside t.to i border t.to_is (no_step_to_nothing t.leads)) on.leads }

-- no step leaves an own output
pub no_step_from_output : {view : View} {sort : Sort} {network : PlainNetwork} {a b : Place} (port : List ℕ) → IsCleanThroughout view network → Step view sort network a b → a ≡ port ∷ [] → side_at view sort network a ≡ Some Output → ⊥
no_step_from_output {sort = sort} port clean (Holds (Own x) d c e f) g h = let k = (here clean).sources sort _ _ c in cc
no_step_from_output {sort = sort} port clean (Holds (Of j x) d c e f) g h = cc
no_step_from_output port clean (Within inner name a' b' i e f s) g h = no_step_from_nothing s (cc)

-- no chain leaves an own output
pub no_chain_from_output : {view : View} {sort : Sort} {network : PlainNetwork} {a b : Place} (port : List ℕ) → IsCleanThroughout view network → Chain view sort network a b → a ≡ port ∷ [] → side_at view sort network a ≡ Some Output → ⊥
no_chain_from_output port clean (One s) g h = no_step_from_output port clean s g h
no_chain_from_output port clean (More b s border rest) g h = no_step_from_output port clean s g h

-- what a border place inside a network is
pub inner_at_border : {view : View} {network : PlainNetwork} {a : Place} (name port : List ℕ) → IsBorderPlace view network a → a ≡ name ∷ port ∷ [] → (inner : PlainNetwork) × IsInner view network name inner
inner_at_border name port (OwnPort p e) g = absurd (cc)
inner_at_border {view = view} {network = network} name port (PortWithin inner name2 a' i e border) g =
    let same_name : name2 ≡ name = cc in
    (inner, subst (λ (m : List ℕ). IsInner view network m inner) same_name i)

-- a step of a subapplication before a chain that is composed already
pub composed_step : {view : View} {sort : Sort} {network : PlainNetwork} {b c : Place} (inner : PlainNetwork) (name : List ℕ) (from to : Place) → IsInner view network name inner → b ≡ name ∷ to → Step view sort inner from to → IsBorderPlace view network b → IsComposed view sort network b c → IsComposed view sort network (name ∷ from) c
composed_step {view = view} {sort = sort} {network = network} inner name from to i f s border (inl inside) =
    let on : Chain view sort inner to inside.to = moved (λ (m : PlainNetwork) (q : Place). Chain view sort m q inside.to) i inside.is_inner (sym inside.from_is ∙ f) inside.chain in
    inl (record { inner = inner; name = name; from = from; to = inside.to; is_inner = i; from_is = refl; to_is = cc; chain = More to s (border_inside to i border f (no_step_to_nothing s)) on })
composed_step {view = view} {sort = sort} {network = network} {b = b} inner name from to i f s border (inr crosses) =
    inr (record { source = crosses.source; destination = crosses.destination; connected = crosses.connected; after = crosses.after; before = inr (left_by crosses.source crosses.before) })
  where
    left_by : (end : End) → (b ≡ place_of end) ⊎ LeavesInner view sort network b end → LeavesInner view sort network (name ∷ from) end
    left_by (Own x) (inl e) = absurd (no_step_to_nothing s (cc))
    left_by (Of j x) (inl e) =
        let same_name : j ≡ name = cc in
        let same_to : to ≡ x ∷ [] = cc in
        record { inner = inner; name = name; port = x; from = from; is_inner = i; end_is = ap (λ (m : List ℕ). Of m x) same_name; from_is = refl; chain = One (subst (λ (q : Place). Step view sort inner from q) same_to s) }
    left_by end (inr leaves) =
        let on : Chain view sort inner to (leaves.port ∷ []) = moved (λ (m : PlainNetwork) (q : Place). Chain view sort m q (leaves.port ∷ [])) i leaves.is_inner (sym leaves.from_is ∙ f) leaves.chain in
        record { inner = inner; name = name; port = leaves.port; from = from; is_inner = i; end_is = cc; from_is = refl; chain = More to s (border_inside to i border f (no_step_to_nothing s)) on }

-- a connection of the network itself before a chain
pub composed_connection : {view : View} {sort : Sort} {network : PlainNetwork} {b c : Place} (s d : End) → IsCleanThroughout view network → IsConnected network sort s d → b ≡ place_of d → IsBorderPlace view network b → Chain view sort network b c → Crosses view sort network (place_of s) c
composed_connection {view = view} {sort = sort} {network = network} s (Own y) clean c f border rest =
    absurd (no_chain_from_output y clean rest f (rw f ((here clean).destinations sort _ _ c)))
composed_connection {view = view} {sort = sort} {network = network} {b = b} {c = c'} s (Of j y) clean c f border rest =
    let found = inner_at_border j y border f in
    let on : Reaches (Chain view sort found.0 (y ∷ [])) j c' = stays_inside (y ∷ []) clean found.1 rest f (λ e. cc) (rw f ((here clean).destinations sort _ _ c)) in
    record { source = s; destination = Of j y; connected = c; before = inl refl; after = inr (record { inner = found.0; name = j; port = y; to = on.to; is_inner = found.1; end_is = refl; to_is = on.to_is; chain = on.leads }) }

-- a chain of a clean network is composed
pub composed : {view : View} {sort : Sort} {network : PlainNetwork} {a b : Place} → IsCleanThroughout view network → Chain view sort network a b → IsComposed view sort network a b
composed clean (One (Holds s d c e f)) = inr (record { source = s; destination = d; connected = c; before = inl e; after = inl f })
composed clean (One (Within inner name a' b' i e f s)) = inl (record { inner = inner; name = name; from = a'; to = b'; is_inner = i; from_is = e; to_is = f; chain = One s })
composed clean (More b (Holds s d c e f) border rest) = rw e (inr (composed_connection s d clean c f border rest))
composed clean (More b (Within inner name a' b' i e f s) border rest) = rw e (composed_step inner name a' b' i f s border (composed clean rest))
