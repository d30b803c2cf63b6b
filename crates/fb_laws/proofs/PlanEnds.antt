-- Each end of a link of a flat network is that of a block.
use Rattle.fb_laws.proofs.Common.{arith, ℕ, ◌≡◌, List, [], ◌∷◌, ◌++◌, Some, ◌⊎◌, inl, inr, sym, ◌∙◌, ap, subst, map, append_assoc, Contains-append_left, Contains-append_right, name_cmp, contains_cases, contains_flat_map, contains_here, contains_later, contains_map, contains_nothing, passes_in_find, Sources, Sort, FlatBlock, Link, Instance, InstanceKind, IsFlat, AreBlocks, AreInstances, Held, NoInstance, ThenBlock, ThenSubapplication, held_as, held_within, leaf_first, leaves_of, BlockPort, IsLeafPlace, LeafWithin, Place, View, dotted, PlainNetwork, PlainFlat, printed, HasFlat, AreFlatApplications, IsUnitFlat, NoApplication, OfSubapplication, OfSystem, ThenApplication, Application, block_within, IsSystemFlat, application_blocks, FlatApplication, IsPrefix, Contains, IsFlatApplication}
use Rattle.std.specs.BTreeMap.{is_at}
use Rattle.fb_types.proofs.Network.Equals.{same_bytes}
use Rattle.fb_placing.proofs.NameLemmas.{printed-push}
use Rattle.fb_types.specs.{Network.declared.network.InstanceKind.TheVariants.{Block, Subapplication}, Network.NetLink.{IsNetLink}}

-- ---- blocks at ports

in_held : (z i : Instance) (rest : List Instance) (tail : List Held) → (z ≡ i) ⊎ Contains rest i → (Contains rest i → Contains tail (held_as i)) → Contains (held_as z ∷ tail) (held_as i)
in_held z i rest tail among more = grind (arith, contains_here, contains_later)

-- an instance is held
pub instance_held : {view : View} {list : List Instance} {held : List Held} → AreInstances view list held → (i : Instance) → Contains list i → Contains held (held_as i)
instance_held NoInstance i c = absurd (contains_nothing i c)
instance_held (ThenBlock z rest others k more) i c = in_held z i rest others (contains_cases z rest i c) (λ d. instance_held more i d)
instance_held (ThenSubapplication z rest inner own others k known inside more) i c =
    in_held z i rest (map (held_within z.name) own ++ others) (contains_cases z rest i c)
    (λ d. Contains-append_right (map (held_within z.name) own) others (held_as i) (instance_held more i d))

-- the instances of a subapplication are held within its name
pub record InnerHeld (view : View) (inner : PlainNetwork) (held : List Held) (name : List ℕ) : Type 0 where
  pub own : List Held
  pub instances : AreInstances view inner.instances own
  pub within : (h : Held) → Contains own h → Contains held (held_within name h)

more_held : {view : View} {inner : PlainNetwork} {name : List ℕ} (prefix back : List Held) → InnerHeld view inner back name → InnerHeld view inner (prefix ++ back) name
more_held {name = name} prefix back o = record { own = o.own; instances = o.instances; within = λ h c. Contains-append_right prefix back (held_within name h) (o.within h c) }

pub inner_held : {view : View} {list : List Instance} {held : List Held} {inner : PlainNetwork} → AreInstances view list held → (i : Instance) → Contains list i → i.kind ≡ Subapplication → view i.type_name ≡ Some inner → InnerHeld view inner held i.name
inner_held NoInstance i c g typed = absurd (contains_nothing i c)
inner_held (ThenBlock z rest others k more) i c g typed =
    elim (contains_cases z rest i c) [ inl same ↦ absurd (let kinds = ap (λ (w : Instance). w.kind) same in cc) | inr d ↦ more_held (held_as z ∷ []) others (inner_held more i d g typed) ]
inner_held {view = view} {inner = inner} (ThenSubapplication z rest nested own others k known inside more) i c g typed =
    elim (contains_cases z rest i c) [
      | inl e ↦
          let type_is : view z.type_name ≡ view i.type_name = ap (λ (w : Instance). view w.type_name) e in
          let same : nested ≡ inner = cc in
          record {
            own = own;
            instances = subst (λ (m : PlainNetwork). AreInstances view m.instances own) same inside;
            within = λ h d. contains_later (held_as z) (map (held_within z.name) own ++ others) (held_within i.name h)
                (Contains-append_left (map (held_within z.name) own) others (held_within i.name h)
                (subst (λ (n : List ℕ). Contains (map (held_within z.name) own) (held_within n h)) (ap (λ (w : Instance). w.name) e) (contains_map (held_within z.name) own h d)));
          }
      | inr d ↦ more_held (held_as z ∷ map (held_within z.name) own) others (inner_held more i d g typed)
    ]

-- a place is a port of a block that is held
record IsHeldAt (held : List Held) (a : Place) : Type 0 where
  first : List ℕ
  others : Place
  typed : List ℕ
  listed : Contains held (record { path = first ∷ others; kind = Block; typed = typed })
  port : List ℕ
  place : a ≡ (first ∷ others) ++ port ∷ []

leaf_held : {view : View} {network : PlainNetwork} {a : Place} → IsLeafPlace view network a → (held : List Held) → AreInstances view network.instances held → IsHeldAt held a
leaf_held {network = network} {a = a} (BlockPort name type port b e) held are =
    let found = passes_in_find (λ (i : Instance). is_at (name_cmp i.name) name) network.instances b.instance b.first in
    let same : b.instance.name ≡ name = same_bytes b.instance.name name found.passes in
    let listed = subst (λ (k : InstanceKind). Contains held (record { path = b.instance.name ∷ []; kind = k; typed = b.instance.type_name })) b.kind (instance_held are b.instance found.among) in
    grind arith
leaf_held {network = network} {a = a} (LeafWithin inner name a' i e leaf) held are =
    let found = passes_in_find (λ (w : Instance). is_at (name_cmp w.name) name) network.instances i.instance i.first in
    let same : i.instance.name ≡ name = same_bytes i.instance.name name found.passes in
    let within = inner_held are i.instance found.among i.kind i.declared in
    let o = leaf_held leaf within.own within.instances in
    let listed = within.within (record { path = o.first ∷ o.others; kind = Block; typed = o.typed }) o.listed in
    grind arith

-- what is held as a block is a block
pub leaf_listed : (held : List Held) (path : Place) (typed : List ℕ) → Contains held (record { path = path; kind = Block; typed = typed }) → Contains (leaves_of held) (record { path = printed path; type_name = typed })
leaf_listed [] path typed c = absurd (contains_nothing _ c)
leaf_listed (h ∷ hs) path typed c =
    let it : FlatBlock = record { path = printed path; type_name = typed } in
    elim (contains_cases h hs (record { path = path; kind = Block; typed = typed }) c) [
      | inl same ↦ subst (λ (w : Held). Contains (leaf_first w.kind w (leaves_of hs)) it) (sym same) (contains_here it (leaves_of hs))
      | inr d ↦ (elim h.kind as (λ k. Contains (leaf_first k h (leaves_of hs)) it) [ Block ↦ contains_later (record { path = printed h.path; type_name = h.typed }) (leaves_of hs) it (leaf_listed hs path typed d) | Subapplication ↦ leaf_listed hs path typed d ])
    ]

-- ---- blocks before ends

pub record HasPrefix (blocks : List FlatBlock) (end : List ℕ) : Type 0 where
  pub block : FlatBlock
  pub listed : Contains blocks block
  pub prefix : IsPrefix block.path end

module _ {view : View} {network : PlainNetwork} {blocks : List FlatBlock} (are : AreBlocks view network blocks) where
  leaf_prefix : {a : Place} → IsLeafPlace view network a → HasPrefix blocks (printed a)
  leaf_prefix leaf =
      let o = leaf_held leaf are.held are.instances in
      let block : FlatBlock = record { path = printed (o.first ∷ o.others); type_name = o.typed } in
      let listed = subst (λ (l : List FlatBlock). Contains l block) (sym are.blocks_are) (leaf_listed are.held (o.first ∷ o.others) o.typed o.listed) in
      record { block = block; listed = listed; prefix = inr (o.port, ap printed o.place ∙ printed-push o.first o.others o.port) }

  -- a port of a plug or a socket
  port_prefix : {a : Place} (port : List ℕ) → IsLeafPlace view network a → HasPrefix blocks (printed (a ++ port ∷ []))
  port_prefix {a} port leaf =
      let o = leaf_held leaf are.held are.instances in
      grind (arith, leaf_prefix, printed-push, append_assoc)

  link_prefixes : {sort : Sort} {a b : Place} → IsNetLink view network sort a b → HasPrefix blocks (printed a) × HasPrefix blocks (printed b)
  link_prefixes link = grind (arith, leaf_prefix, port_prefix)

flat_prefixes : {view : View} {network : PlainNetwork} {flat : PlainFlat} → IsFlat view network flat → (link : Link) → Contains flat.links link → HasPrefix flat.blocks link.from × HasPrefix flat.blocks link.to
flat_prefixes {flat = flat} is link c =
    let l = is.links.sound link c in
    let ends = link_prefixes is.blocks l.link in
    (subst (λ (t : List ℕ). HasPrefix flat.blocks t) (sym l.from_is) ends.0, subst (λ (t : List ℕ). HasPrefix flat.blocks t) (sym l.to_is) ends.1)

-- ---- the ends of a unit's links

-- the flat network of an application, and the application of a flat network
pub record IsPair (view : View) (applications : List Application) (flats : List FlatApplication) (a : Application) (f : FlatApplication) : Type 0 where
  pub application_listed : Contains applications a
  pub flat_listed : Contains flats f
  pub is : IsFlatApplication view a f

later_pair : {view : View} {applications : List Application} {flats : List FlatApplication} {a : Application} {f : FlatApplication} (z : Application) (y : FlatApplication) → IsPair view applications flats a f → IsPair view (z ∷ applications) (y ∷ flats) a f
later_pair {applications = applications} {flats = flats} {a = a} {f = f} z y p = record { application_listed = contains_later z applications a p.application_listed; flat_listed = contains_later y flats f p.flat_listed; is = p.is }

pub flat_of : {view : View} {applications : List Application} {flats : List FlatApplication} → AreFlatApplications view applications flats → (a : Application) → Contains applications a → (f : FlatApplication) × IsPair view applications flats a f
flat_of NoApplication a c = absurd (contains_nothing a c)
flat_of {view = view} (ThenApplication {rest = rest} {others = others} z y is more) a c =
    elim (contains_cases z rest a c) [ inl same ↦ (y, subst (λ (w : Application). IsPair view (z ∷ rest) (y ∷ others) w y) same (record { application_listed = contains_here z rest; flat_listed = contains_here y others; is = is })) | inr d ↦ let p = (flat_of more a d) in (p.0, later_pair z y p.1) ]

pub application_of : {view : View} {applications : List Application} {flats : List FlatApplication} → AreFlatApplications view applications flats → (f : FlatApplication) → Contains flats f → (a : Application) × IsPair view applications flats a f
application_of NoApplication f c = absurd (contains_nothing f c)
application_of {view = view} (ThenApplication {rest = rest} {others = others} z y is more) f c =
    elim (contains_cases y others f c) [ inl same ↦ (z, subst (λ (w : FlatApplication). IsPair view (z ∷ rest) (y ∷ others) z w) same (record { application_listed = contains_here z rest; flat_listed = contains_here y others; is = is })) | inr d ↦ let p = (application_of more f d) in (p.0, later_pair z y p.1) ]

prefix_within : (name prefix path : List ℕ) → IsPrefix prefix path → IsPrefix (dotted name prefix) (dotted name path)
prefix_within name prefix path is = grind (arith, append_assoc)

prefixes_within : (flats : List FlatApplication) (flat : PlainFlat) → IsSystemFlat flats flat → (f : FlatApplication) → Contains flats f → (end : List ℕ) → HasPrefix f.flat.blocks end → HasPrefix flat.blocks (dotted f.name end)
prefixes_within flats flat whole f c end h = record {
  block = block_within f.name h.block;
  listed =
      subst (λ (l : List FlatBlock). Contains l (block_within f.name h.block)) (sym whole.blocks)
      (contains_flat_map application_blocks flats f (block_within f.name h.block) c (contains_map (block_within f.name) f.flat.blocks h.block h.listed));
  prefix = prefix_within f.name h.block.path end h.prefix;
}

system_prefixes : {view : View} {applications : List Application} {flats : List FlatApplication} {flat : PlainFlat} → AreFlatApplications view applications flats → IsSystemFlat flats flat → (link : Link) → Contains flat.links link → HasPrefix flat.blocks link.from × HasPrefix flat.blocks link.to
system_prefixes {flats = flats} {flat = flat} are whole link c =
    let l = (whole.links link).0 c in
    let ends = flat_prefixes (application_of are l.application l.among).1.is.net l.own l.is_own in (
      subst (λ (w : Link). HasPrefix flat.blocks w.from) (sym l.inside) (prefixes_within flats flat whole l.application l.among l.own.from ends.0),
      subst (λ (w : Link). HasPrefix flat.blocks w.to) (sym l.inside) (prefixes_within flats flat whole l.application l.among l.own.to ends.1),
    )

pub net_prefixes : (sources : Sources) (unit : List ℕ) (flat : PlainFlat) → HasFlat sources unit flat → (link : Link) → Contains flat.links link → HasPrefix flat.blocks link.from × HasPrefix flat.blocks link.to
net_prefixes sources unit flat is link c = by is.2
  where
    by : IsUnitFlat sources unit flat → HasPrefix flat.blocks link.from × HasPrefix flat.blocks link.to
    by (OfSubapplication network kind there net) = flat_prefixes net link c
    by (OfSystem applications flats kind there are net) = system_prefixes are net link c
