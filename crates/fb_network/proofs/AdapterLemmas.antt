-- Chains of adapters keep the adapter, and stand for links of its events and data.
use Rattle.std.proofs.Common.{ℕ, ◌≡◌, List, [], ◌∷◌, ◌++◌, inl, inr, refl, sym, ◌∙◌, ap}
use Rattle.std.specs.Prelude.{option_and_then}
use Rattle.fb_tree.specs.{declared.network.Sort.{Sort}, declared.network.Sort.TheVariants.{Adapter}}
use Rattle.fb_network.specs.{declared.network.End.{End}, Plain.{PlainNetwork}}
use Rattle.fb_network.specs.Network.{View, Place, place_of, IsInner, Step, Holds, Within, Chain, One, More, IsLink}
use Rattle.fb_network.specs.NetLink.{IsNetLink, Direct, FromPlug, ToPlug}
use Rattle.fb_network.specs.{Clean.{adapter_name_at, adapter_at, IsCleanThroughout}, Composition.{IsBehind, BlockItself, BehindBorder}}
use Rattle.fb_network.proofs.Chains.{no_step_from_nothing, no_step_to_nothing, type_of-inner, here, clean_inner}
use Rattle.fb_network.proofs.LinkLemmas.{no_leaf_nothing, link_of_composed}

-- a place inside a subapplication has the adapter that it has there
pub adapter_name_at-inner : {view : View} {network inner : PlainNetwork} {name : List ℕ} (a : Place) → (a ≡ [] → ⊥) → IsInner view network name inner → adapter_name_at view network (name ∷ a) ≡ adapter_name_at view inner a
adapter_name_at-inner [] n p = absurd (n refl)
adapter_name_at-inner {view = view} (x ∷ a) n p = ap (option_and_then (λ (type : PlainNetwork). adapter_name_at view type (x ∷ a))) (type_of-inner p)

pub adapter_at-inner : {view : View} {network inner : PlainNetwork} {name : List ℕ} (a : Place) → (a ≡ [] → ⊥) → IsInner view network name inner → adapter_at view network (name ∷ a) ≡ adapter_at view inner a
adapter_at-inner {view = view} a n p = ap (option_and_then view) (adapter_name_at-inner a n p)

-- a step joins places of one adapter type
same_type_step : {view : View} {network : PlainNetwork} {a b : Place} → IsCleanThroughout view network → Step view Adapter network a b → adapter_name_at view network a ≡ adapter_name_at view network b
same_type_step {view = view} {network = network} clean (Holds s d c e f) = ap (adapter_name_at view network) e ∙ (here clean).same_adapters s d c ∙ sym (ap (adapter_name_at view network) f)
same_type_step {view = view} {network = network} clean (Within inner name a' b' i e f s) =
    ap (adapter_name_at view network) e ∙ adapter_name_at-inner a' (no_step_from_nothing s) i ∙ same_type_step (clean_inner clean i) s ∙ sym (adapter_name_at-inner b' (no_step_to_nothing s) i) ∙ sym (ap (adapter_name_at view network) f)

-- a chain joins places of one adapter type
pub same_type : {view : View} {network : PlainNetwork} {a b : Place} → IsCleanThroughout view network → Chain view Adapter network a b → adapter_name_at view network a ≡ adapter_name_at view network b
same_type clean (One s) = same_type_step clean s
same_type clean (More b s border rest) = same_type_step clean s ∙ same_type clean rest

-- what is behind an end has the end's adapter
pub adapter_behind : {view : View} {network : PlainNetwork} {place : Place} (end : End) → IsCleanThroughout view network → IsBehind view Adapter network end place → adapter_at view network place ≡ adapter_at view network (place_of end)
adapter_behind {view = view} {network = network} end clean (BlockItself name type port b e g) = ap (adapter_at view network) (g ∙ sym (ap place_of e))
adapter_behind {view = view} {network = network} end clean (BehindBorder inner name port to i e g border) =
    let inside : adapter_name_at view inner to ≡ adapter_name_at view inner (port ∷ []) =
    elim border.chain [ inl c ↦ sym (same_type (clean_inner clean i) c) | inr c ↦ same_type (clean_inner clean i) c ] in
    ap (adapter_at view network) g
    ∙ ap (option_and_then view) (adapter_name_at-inner to (no_leaf_nothing border.leaf) i ∙ inside ∙ sym (adapter_name_at-inner (port ∷ []) (λ h. cc) i))
    ∙ sym (ap (λ (x : End). adapter_at view network (place_of x)) e)

pub longer_not_nothing : (a : Place) (port : List ℕ) → a ++ port ∷ [] ≡ [] → ⊥
longer_not_nothing [] port e = cc
longer_not_nothing (x ∷ a) port e = cc

-- no link leaves or reaches the empty place
pub net_link_ends : {view : View} {network : PlainNetwork} {sort : Sort} {a b : Place} → IsNetLink view network sort a b → (a ≡ [] → ⊥) × (b ≡ [] → ⊥)
net_link_ends (Direct n link) = (no_leaf_nothing link.from_leaf, no_leaf_nothing link.to_leaf)
net_link_ends (FromPlug plug socket adapter port link at among k s f g) = (λ e. longer_not_nothing plug port.name (sym f ∙ e), λ e. longer_not_nothing socket port.name (sym g ∙ e))
net_link_ends (ToPlug plug socket adapter port link at among k s f g) = (λ e. longer_not_nothing socket port.name (sym f ∙ e), λ e. longer_not_nothing plug port.name (sym g ∙ e))

-- a link of a subapplication is one of the network
link_within : {view : View} {network inner : PlainNetwork} {name : List ℕ} {sort : Sort} {a b : Place} → IsCleanThroughout view network → IsInner view network name inner → IsLink view inner sort a b → IsLink view network sort (name ∷ a) (name ∷ b)
link_within {inner = inner} {name = name} {a = a} {b = b} clean i link =
    link_of_composed clean (inl (record { inner = inner; name = name; from = a; to = b; is_inner = i; from_is = refl; to_is = refl; link = link }))

pub net_link_within : {view : View} {network inner : PlainNetwork} {name : List ℕ} {sort : Sort} {a b : Place} → IsCleanThroughout view network → IsInner view network name inner → IsNetLink view inner sort a b → IsNetLink view network sort (name ∷ a) (name ∷ b)
net_link_within clean i (Direct n link) = Direct n (link_within clean i link)
net_link_within {name = name} clean i (FromPlug plug socket adapter port link at among k s f g) =
    FromPlug (name ∷ plug) (name ∷ socket) adapter port (link_within clean i link) (adapter_at-inner plug (no_leaf_nothing link.from_leaf) i ∙ at) among k s (ap (λ (q : Place). name ∷ q) f) (ap (λ (q : Place). name ∷ q) g)
net_link_within {name = name} clean i (ToPlug plug socket adapter port link at among k s f g) =
    ToPlug (name ∷ plug) (name ∷ socket) adapter port (link_within clean i link) (adapter_at-inner plug (no_leaf_nothing link.from_leaf) i ∙ at) among k s (ap (λ (q : Place). name ∷ q) f) (ap (λ (q : Place). name ∷ q) g)
