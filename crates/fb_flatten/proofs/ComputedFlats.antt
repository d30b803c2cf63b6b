-- Through enough depths flat networks and instances are found.
use Rattle.std.proofs.Common.{Ordering, true, ◌≡◌, ℕ, suc, List, [], ◌∷◌, ◌++◌, Some, None, refl, sym, ap, subst}
use Rattle.std.specs.{Prelude.{Contains, ◌≢◌, option_map}, FinMap.{get}, Cmp.{IsTotalOrder}, Ordering.{eq_by_cmp, is_eq}}
use Rattle.fb_types.specs.{Text.Order.{in_order}, Library.View.{Sources, parts_at}, Library.Rests.{PartRests, on_itself, through_part}}
use Rattle.fb_types.specs.{Network.declared.network.InstanceKind.{InstanceKind}, Network.declared.network.InstanceKind.TheVariants.{Block, Subapplication}}
use Rattle.fb_types.specs.{Network.declared.network.Instance.{Instance}, Network.declared.flat.Link.{Link}}
use Rattle.fb_types.specs.{Network.Plain.{PlainNetwork}, Network.LinkOrder.{link_cmp, link_cmp_total, border_cmp, border_cmp_total}}
use Rattle.fb_types.specs.{Network.Network.{instance_named}, Network.Clean.{IsClean, IsCleanThroughout, CleanThroughout}}
use Rattle.fb_types.specs.{Network.Instances.{Held, held_as, AreInstances, NoInstance, ThenBlock, ThenSubapplication}, Network.FlatNet.{IsFlat}}
use Rattle.fb_types.specs.{Network.Composed.{composed_blocks, composed_borders, composed_links}, Network.Ready.{IsFinished}}
use Rattle.fb_types.specs.{ByName.{declared}, Networks.{network_of}}
use Rattle.fb_types.proofs.{Text.OrderLemmas.{in_order-members, in_order-sorted}, Text.Members.{contains_here, contains_later}}
use Rattle.fb_types.proofs.{Network.Composing.{found_by_name}, Network.Equals.{exact_border, exact_link}, Network.FlatLemmas.{IsOrderOf, flat_of}}
use Rattle.fb_faults.specs.Faults.{faults_of}
use Rattle.fb_flatten.proofs.{CleanUnits.{networks_clean}, MentionLemmas.{declared_within}, OrderLemmas.{tree_of_faultless}, Depths.{Deep, deep}}
use Rattle.fb_flatten.specs.Nets.{composed, composed_at, flats_of, held_inside, held_by, held_at, held_of}

-- ---- lists in order

ordered : {X : Type 0} (cmp : X → X → Ordering) → IsTotalOrder cmp → ((a b : X) → eq_by_cmp cmp a b ≡ true → a ≡ b) → (xs : List X) → IsOrderOf xs (in_order cmp xs)
ordered cmp total exact xs =
    let members = in_order-members cmp total (λ a b e. exact a b (ap is_eq e)) xs in
    record { kept = λ x c. (members x).1 c; added = λ x c. (members x).0 c }

pub links_ordered : (links : List Link) → IsOrderOf links (in_order link_cmp links)
links_ordered links = ordered link_cmp link_cmp_total exact_link links

-- ---- depths

-- all that the name rests on by parts is there and without faults
abbrev pub AreFaultless : Sources → List ℕ → Type 0
AreFaultless sources name = (v : List ℕ) → PartRests sources name v → (get sources v ≢ None) × (faults_of sources v ≡ [])

-- the type's network is clean, with its flat network and its instances through these depths
pub record IsDone (sources : Sources) (depth : ℕ) (name : List ℕ) : Type 0 where
  pub network : PlainNetwork
  pub is_declared : declared sources name ≡ Some network
  pub clean : IsCleanThroughout (declared sources) network
  pub finished : IsFinished (declared sources) (flats_of depth (declared sources)) name
  pub held : AreInstances (declared sources) network.instances (held_of depth (declared sources) name)

abbrev AreDone : Sources → ℕ → List Instance → Type 0
AreDone sources depth list = (i : Instance) → Contains list i → IsDone sources depth i.type_name

pub clean_with : (sources : Sources) (depth : ℕ) (network : PlainNetwork) → IsClean (declared sources) network → AreDone sources depth network.instances → IsCleanThroughout (declared sources) network
clean_with sources depth network clean done = CleanThroughout clean
    (λ at inner i.
    let found = found_by_name network.instances at i.instance i.first in
    let d = done i.instance found.among in
    let a = d.is_declared in
    let b = i.declared in
    let same : d.network ≡ inner = cc in
    subst (λ (n : PlainNetwork). IsCleanThroughout (declared sources) n) same d.clean)

-- the flat network of a clean network whose types are done
pub flat_with : (sources : Sources) (depth : ℕ) (network : PlainNetwork) → IsClean (declared sources) network → AreDone sources depth network.instances → IsFlat (declared sources) network (composed (declared sources) (flats_of depth (declared sources)) network)
flat_with sources depth network clean done =
    let nets = flats_of depth (declared sources) in
    let links = composed_links (declared sources) network (instance_named network.instances) nets in
    let borders = composed_borders network (instance_named network.instances) nets in
    flat_of (instance_named network.instances) (composed_blocks network nets) links (in_order link_cmp links) borders (in_order border_cmp borders)
    (clean_with sources depth network clean done) (λ i c k. (done i c).finished) refl refl refl refl
    (links_ordered links) (ordered border_cmp border_cmp_total exact_border borders) (in_order-sorted link_cmp link_cmp_total links) (in_order-sorted border_cmp border_cmp_total borders)

held_one : (sources : Sources) (depth : ℕ) (i : Instance) (rest : List Instance) (others : List Held) (kind : InstanceKind) → i.kind ≡ kind → IsDone sources depth i.type_name → AreInstances (declared sources) rest others → AreInstances (declared sources) (i ∷ rest) (held_as i ∷ (held_inside (held_of depth (declared sources)) kind i ++ others))
held_one sources depth i rest others Block e done more = ThenBlock i rest others e more
held_one sources depth i rest others Subapplication e done more = ThenSubapplication i rest done.network (held_of depth (declared sources) i.type_name) others e done.is_declared done.held more

-- the instances of a list whose types are done
pub held_with : (sources : Sources) (depth : ℕ) (list : List Instance) → AreDone sources depth list → AreInstances (declared sources) list (held_by (held_of depth (declared sources)) list)
held_with sources depth [] done = NoInstance
held_with sources depth (i ∷ rest) done =
    held_one sources depth i rest (held_by (held_of depth (declared sources)) rest) i.kind refl (done i (contains_here i rest)) (held_with sources depth rest (λ j c. done j (contains_later i rest j c)))

done_next : (sources : Sources) (depth : ℕ) (name : List ℕ) → AreFaultless sources name → ((w : List ℕ) → Contains (parts_at sources name) w → IsDone sources depth w) → IsDone sources (suc depth) name
unfolding flats_of held_of
done_next sources depth name faultless inner =
    let whole = faultless name on_itself in
    let t = tree_of_faultless sources name whole.0 whole.1 in
    let network : PlainNetwork = network_of t.tree in
    let is : declared sources name ≡ Some network = ap (option_map network_of) t.present in
    let clean : IsClean (declared sources) network = (networks_clean sources name network is whole.1).clean in
    let done : AreDone sources depth network.instances = λ i c. inner i.type_name ((declared_within sources name network is).types i c) in
    let view = declared sources in
    record {
      network = network;
      is_declared = is;
      clean = clean_with sources depth network clean done;
      finished = record {
        inner = network;
        declared = is;
        net = composed view (flats_of depth view) network;
        found = ap (composed_at view (flats_of depth view)) is;
        flat = flat_with sources depth network clean done;
      };
      held = subst (AreInstances view network.instances) (sym (ap (held_at (held_of depth view)) is)) (held_with sources depth network.instances done);
    }

pub all_done : {sources : Sources} {depth : ℕ} {name : List ℕ} → Deep sources depth name → AreFaultless sources name → IsDone sources depth name
all_done {sources = sources} (deep {depth = depth} {name = name} inner) faultless =
    done_next sources depth name faultless (λ w m. all_done (inner w m) (λ v r. faultless v (through_part m r)))
