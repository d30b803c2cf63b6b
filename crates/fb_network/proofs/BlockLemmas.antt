-- The blocks that are composed are those of the network.
use Rattle.std.proofs.Common.{ℕ, ◌≡◌, List, [], ◌∷◌, ◌++◌, refl, ap, arith}
use Rattle.std.proofs.lemmas.List.Elements.{All-append, All-cons, All-contains_itself, All-head, All-map, All-nil, All-tail, All-weaker}
use Rattle.std.specs.{Prelude.{Contains, map, flat_map}, List.{All}}
use Rattle.fb_network.specs.{declared.network.InstanceKind.{InstanceKind}, declared.network.InstanceKind.TheVariants.{Block, Subapplication}}
use Rattle.fb_network.specs.{declared.network.Instance.{Instance}, Plain.{PlainNetwork}, declared.flat.FlatBlock.{FlatBlock}, Network.{View}}
use Rattle.fb_network.specs.Composed.{block_within, blocks_of_kind, inner_blocks, composed_blocks}
use Rattle.fb_network.specs.Instances.{Held, held_as, held_within, AreInstances, NoInstance, ThenBlock, ThenSubapplication, leaves_of, AreBlocks}
use Rattle.fb_network.specs.Ready.{Nets, IsFinished, AreFinished}
use Rattle.fb_tree.proofs.Text.Members.{contains_here, contains_later}
use Rattle.fb_network.proofs.Equals.{printed-within}

-- a network's list of instances is one only
pub same_instances : {view : View} {list : List Instance} {a b : List Held} → AreInstances view list a → AreInstances view list b → a ≡ b
same_instances NoInstance NoInstance = refl
same_instances (ThenBlock i rest others k more) (ThenBlock i2 rest2 others2 k2 more2) = ap (λ (hs : List Held). held_as i ∷ hs) (same_instances more more2)
same_instances (ThenBlock i rest others k more) (ThenSubapplication i2 rest2 inner2 own2 others2 k2 d2 within2 more2) = absurd (cc)
same_instances (ThenSubapplication i rest inner own others k d inside more) (ThenBlock i2 rest2 others2 k2 more2) = absurd (cc)
same_instances {view = view} (ThenSubapplication i rest inner own others k d inside more) (ThenSubapplication i2 rest2 inner2 own2 others2 k2 d2 inside2 more2) =
    let same : inner2 ≡ inner = cc in
    let owns : own ≡ own2 = same_instances inside (rw same at inside2) in
    let follow : others ≡ others2 = same_instances more more2 in
    cc

-- the path has a name
abbrev HasPath : Held → Type 0
HasPath h = h.path ≡ [] → ⊥

have_paths : {view : View} {list : List Instance} {held : List Held} → AreInstances view list held → All HasPath held
have_paths NoInstance = All-nil HasPath
have_paths (ThenBlock i rest others k more) = All-cons HasPath (held_as i) others (λ e. cc) (have_paths more)
have_paths (ThenSubapplication i rest inner own others k d inside more) =
    let within : All HasPath (map (held_within i.name) own) = All-map HasPath (held_within i.name) own (All-weaker (Contains own) (λ h. HasPath (held_within i.name h)) (λ h c e. cc) own (All-contains_itself own)) in
    All-cons HasPath (held_as i) (map (held_within i.name) own ++ others) (λ e. cc) (All-append HasPath (map (held_within i.name) own) others within (have_paths more))

leaves_of-append : (xs ys : List Held) → leaves_of (xs ++ ys) ≡ leaves_of xs ++ leaves_of ys
leaves_of-append [] ys = refl
leaves_of-append (x ∷ xs) ys = grind (arith, leaves_of-append xs ys)

leaves_of-within : (name : List ℕ) (hs : List Held) → All HasPath hs → leaves_of (map (held_within name) hs) ≡ map (block_within name) (leaves_of hs)
leaves_of-within name [] p = refl
leaves_of-within name (h ∷ hs) p = grind (arith, leaves_of-within name hs (All-tail HasPath h hs p), printed-within name h.path (All-head HasPath h hs p))

-- the types of the subapplications among some instances are finished
abbrev AreReady : View → List Instance → Nets → Type 0
AreReady view list nets = (i : Instance) → Contains list i → i.kind ≡ Subapplication → IsFinished view nets i.type_name

-- the blocks of some instances are those that the code composes
abbrev AreBlocksOf : View → List Instance → List FlatBlock → Type 0
AreBlocksOf view list = AreBlocks view (record { ports = []; instances = list; connections = [] })

blocks_by_kind : {view : View} {nets : Nets} (i : Instance) (rest : List Instance) (blocks : List FlatBlock) → (i.kind ≡ Subapplication → IsFinished view nets i.type_name) → AreBlocksOf view rest blocks → (k : InstanceKind) → i.kind ≡ k → AreBlocksOf view (i ∷ rest) (blocks_of_kind k nets i.name i.type_name ++ blocks)
blocks_by_kind i rest blocks ready more Block g =
    record {
      held = held_as i ∷ more.held;
      instances = ThenBlock i rest more.held g more.instances;
      blocks_are = rw (g, more.blocks_are);
    }
blocks_by_kind {view = view} {nets = nets} i rest blocks ready more Subapplication g =
    let f = ready g in
    let own : List Held = f.flat.blocks.held in
    let within = leaves_of-within i.name own (have_paths f.flat.blocks.instances) in
    record {
      held = held_as i ∷ (map (held_within i.name) own ++ more.held);
      instances = ThenSubapplication i rest f.inner own more.held g f.declared f.flat.blocks.instances more.instances;
      blocks_are = rw (g, f.found, f.flat.blocks.blocks_are, more.blocks_are, leaves_of-append (map (held_within i.name) own) more.held, within);
    }

blocks_of_list : {view : View} {nets : Nets} (list : List Instance) → AreReady view list nets → AreBlocksOf view list (flat_map (inner_blocks nets) list)
blocks_of_list [] ready = record { held = []; instances = NoInstance; blocks_are = refl }
blocks_of_list (i ∷ rest) ready =
    blocks_by_kind i rest _ (ready i (contains_here i rest)) (blocks_of_list rest (λ j c k. ready j (contains_later i rest j c) k)) i.kind refl

-- what is composed are the blocks of the network
pub composed_blocks_are : {view : View} {network : PlainNetwork} {nets : Nets} → AreFinished view network nets → AreBlocks view network (composed_blocks network nets)
composed_blocks_are {network = network} {nets = nets} ready =
    let b = blocks_of_list network.instances ready in
    record { held = b.held; instances = b.instances; blocks_are = b.blocks_are }
