-- The blocks of a system's flat network are those at its paths.
use Rattle.fb_laws.proofs.Common.{arith, ◌≡◌, ℕ, List, [], ◌∷◌, ◌++◌, Option, Some, None, inl, inr, refl, sym, ap, ◌∙◌, subst, append_assoc, option_map, filter_map, flat_map, Contains-append_cases, contains_cases, contains_flat_map, contains_here, contains_later, contains_map, contains_nothing, origin_in_flat_map, origin_in_map, ApplicationTree, DeclTree, InstanceTree, SystemTree, subapplication_type, Role, Sources, tree_at, HasFlat, plain_application, declared, instance_in_role, network_of, plain_instance, AreFlatApplications, Application, block_within, AreInstances, Held, NoInstance, ThenBlock, ThenSubapplication, held_as, held_within, leaves_of, View, PlainNetwork, PlainFlat, printed, dotted, IsSystemFlat, application_blocks, FlatApplication, FlatBlock, Instance, InstanceKind, IsSystemAt, IsAtPath, in_application, inside, with_points, Contains, map, Path}
use Rattle.fb_laws.proofs.{Lists.{given, gives_member}, PathHomes.{some_more}, PathTexts.{same_print}, PlanEnds.{application_of, flat_of, inner_held, instance_held, leaf_listed}}
use Rattle.fb_types.proofs.Network.Equals.{printed-within}
use Rattle.fb_types.specs.Network.declared.network.InstanceKind.TheVariants.{Block, Subapplication}
use Rattle.fb_tree.specs.declared.network.Role.TheVariants as roles

-- ---- instances in plain

abbrev pub role_of : InstanceKind → Role
role_of Block = roles.Block
role_of Subapplication = roles.Subapplication

abbrev in_plain : InstanceTree → InstanceKind → Instance
in_plain i kind = record { name = i.name.name; kind = kind; type_name = i.type_name.name }

-- what an instance in plain is of
of_role : (role : Role) (name type_name : List ℕ) (p : Instance) → instance_in_role role name type_name ≡ Some p → (name ≡ p.name) × (role ≡ role_of p.kind) × (type_name ≡ p.type_name)
of_role role name type_name p e = grind arith

-- an instance of a block or a subapplication among the plain ones
among_plain : (instances : List InstanceTree) (i : InstanceTree) (kind : InstanceKind) → Contains instances i → i.role ≡ role_of kind → Contains (filter_map plain_instance instances) (in_plain i kind)
among_plain instances i kind c role = gives_member plain_instance instances i (in_plain i kind) c (grind arith)

-- ---- from paths to what is held

-- the instances between these names and a further one
record HeldBelow (view : View) (list : List Held) (between : Path) (instances : List Instance) : Type 0 where
  own : List Held
  are : AreInstances view instances own
  up : (h : Held) → Contains own h → Contains list (record { path = between ++ h.path; kind = h.kind; typed = h.typed })

-- the application of a path, the names between it and the last one, and what is held there wherever the instances of the application are
record IsIn (sources : Sources) (s : SystemTree) (path : Path) (i : InstanceTree) : Type 0 where
  application : ApplicationTree
  listed : Contains s.applications application
  between : Path
  is_path : path ≡ application.name.name ∷ (between ++ i.name.name ∷ [])
  peers : List InstanceTree
  among : Contains peers i
  below : (list : List Held) → AreInstances (declared sources) (plain_application application).network.instances list → HeldBelow (declared sources) list between (filter_map plain_instance peers)

is_in : (sources : Sources) (s : SystemTree) (path : Path) (i : InstanceTree) → IsAtPath sources s path i → IsIn sources s path i
is_in sources s path end (in_application a i ca ci) =
    record { application = a; listed = ca; between = []; is_path = refl; peers = a.network.instances; among = ci; below = λ list are. record { own = list; are = are; up = λ h c. c } }
is_in sources s path end (inside {path = before} {outer = outer} type i at role there ci) =
    let o = is_in sources s before outer at in
    let name = outer.name.name in
    record {
      application = o.application;
      listed = o.listed;
      between = o.between ++ name ∷ [];
      is_path = ap (λ (p : Path). p ++ i.name.name ∷ []) o.is_path;
      peers = type.network.instances;
      among = ci;
      below = λ list are.
          let b = o.below list are in
          let n = inner_held b.are (in_plain outer Subapplication) (among_plain o.peers outer Subapplication o.among role) refl (ap (option_map network_of) there) in
          record {
            own = n.own;
            are = n.instances;
            up = λ h c. subst (λ (p : Path). Contains list (record { path = p; kind = h.kind; typed = h.typed })) (sym (append_assoc o.between (name ∷ []) h.path)) (b.up (held_within name h) (n.within h c));
          };
    }

-- ---- from what is held to paths

-- an instance of this kind and type is at the path
pub record StandsAs (sources : Sources) (s : SystemTree) (path : Path) (kind : InstanceKind) (typed : List ℕ) : Type 0 where
  pub instance : InstanceTree
  pub at : IsAtPath sources s path instance
  pub in_role : instance.role ≡ role_of kind
  pub of_type : instance.type_name.name ≡ typed

module _ (sources : Sources) (s : SystemTree) where
  abbrev Stands : Path → Held → Type 0
  Stands path h = StandsAs sources s (path ++ h.path) h.kind h.typed

  -- the instances in the type of a subapplication instance
  step_in : (path : Path) (z : Instance) (tree : Option DeclTree) → z.kind ≡ Subapplication → tree_at sources z.type_name ≡ tree → StandsAs sources s (path ++ z.name ∷ []) z.kind z.type_name → (inner : PlainNetwork) → option_map network_of tree ≡ Some inner → (p : Instance) → Contains inner.instances p → StandsAs sources s ((path ++ z.name ∷ []) ++ p.name ∷ []) p.kind p.type_name
  step_in path z (Some (subapplication_type d)) k there o inner e p c =
      let same : network_of (subapplication_type d) ≡ inner = cc in
      let g = given plain_instance d.network.instances p (subst (λ (n : PlainNetwork). Contains n.instances p) (sym same) c) in
      grind (arith, of_role, inside)
  step_in path z None k there o inner e p c = absurd (let no : ⊥ = cc in no)
  step_in path z (Some d) k there o inner e p c = let same : network_of d ≡ inner = cc in absurd (contains_nothing p (subst (λ (n : PlainNetwork). Contains n.instances p) (sym same) c))

  held_stands : {list : List Instance} {held : List Held} → AreInstances (declared sources) list held → (path : Path) → ((p : Instance) → Contains list p → StandsAs sources s (path ++ p.name ∷ []) p.kind p.type_name) → (h : Held) → Contains held h → Stands path h
  held_stands NoInstance path each h c = absurd (contains_nothing h c)
  held_stands (ThenBlock z rest others k more) path each h c =
      elim (contains_cases (held_as z) others h c) [ inl same ↦ subst (λ (w : Held). Stands path w) same (each z (contains_here z rest)) | inr d ↦ held_stands more path (λ p cp. each p (contains_later z rest p cp)) h d ]
  held_stands (ThenSubapplication z rest inner own others k here within more) path each h c =
      elim (contains_cases (held_as z) (map (held_within z.name) own ++ others) h c) [
        | inl same ↦ subst (λ (w : Held). Stands path w) same (each z (contains_here z rest))
        | inr d ↦ elim (Contains-append_cases (map (held_within z.name) own) others h d) [
          | inl d ↦
              let o = origin_in_map (held_within z.name) own h d in
              let deeper = held_stands within (path ++ z.name ∷ []) (λ p cp. step_in path z (tree_at sources z.type_name) k refl (each z (contains_here z rest)) inner here p cp) o.origin o.among in
              subst (λ (w : Held). Stands path w) o.gives (subst (λ (q : Path). StandsAs sources s q o.origin.kind o.origin.typed) (append_assoc path (z.name ∷ []) o.origin.path) deeper)
          | inr d ↦ held_stands more path (λ p cp. each p (contains_later z rest p cp)) h d
        ]
      ]

-- ---- flat networks

-- a leaf is held as a block
record IsLeaf (held : List Held) (b : FlatBlock) : Type 0 where
  path : Path
  listed : Contains held (record { path = path; kind = Block; typed = b.type_name })
  place : printed path ≡ b.path

leaf_origin : (held : List Held) (b : FlatBlock) → Contains (leaves_of held) b → IsLeaf held b
leaf_origin [] b c = absurd (contains_nothing b c)
leaf_origin (h ∷ hs) b c = grind (arith, contains_later, contains_here, contains_cases, leaf_origin hs b)

-- ---- the blocks of the system

-- what is at the path of a block
pub record BlockStands (sources : Sources) (s : SystemTree) (b : FlatBlock) : Type 0 where
  pub path : Path
  pub block : StandsAs sources s path Block b.type_name
  pub place : with_points path ≡ b.path

-- the flat network has the blocks that are at paths, and no others
pub record BlocksStand (sources : Sources) (s : SystemTree) (flat : PlainFlat) : Type 0 where
  pub listed : (path : Path) (i : InstanceTree) → IsAtPath sources s path i → i.role ≡ roles.Block → Contains flat.blocks (record { path = with_points path; type_name = i.type_name.name })
  pub stands : (b : FlatBlock) → Contains flat.blocks b → BlockStands sources s b

module _ (sources : Sources) (s : SystemTree) (flats : List FlatApplication) (flat : PlainFlat) (are : AreFlatApplications (declared sources) (map plain_application s.applications) flats) (whole : IsSystemFlat flats flat) where
  listed_in : (path : Path) (i : InstanceTree) → IsAtPath sources s path i → i.role ≡ roles.Block → Contains flat.blocks (record { path = with_points path; type_name = i.type_name.name })
  listed_in path i at role =
      let o = is_in sources s path i at in
      let p = flat_of are (plain_application o.application) (contains_map plain_application s.applications o.application o.listed) in
      let net = p.1.is.net.blocks in
      let b = o.below net.held net.instances in
      let inner = o.between ++ i.name.name ∷ [] in
      let it : FlatBlock = record { path = printed inner; type_name = i.type_name.name } in
      let leaf = leaf_listed net.held inner i.type_name.name (b.up (held_as (in_plain i Block)) (instance_held b.are (in_plain i Block) (among_plain o.peers i Block o.among role))) in
      let own : Contains p.0.flat.blocks it = subst (λ (l : List FlatBlock). Contains l it) (sym net.blocks_are) leaf in
      let text = ap with_points o.is_path ∙ same_print (o.application.name.name ∷ inner) ∙ printed-within o.application.name.name inner (some_more o.between i.name.name) in
      let place : dotted p.0.name it.path ≡ with_points path = ap (λ (n : List ℕ). dotted n it.path) p.1.is.name ∙ sym text in
      subst (λ (l : List FlatBlock). Contains l (record { path = with_points path; type_name = i.type_name.name })) (sym whole.blocks)
      (subst (λ (t : List ℕ). Contains (flat_map application_blocks flats) (record { path = t; type_name = i.type_name.name })) place
      (contains_flat_map application_blocks flats p.0 (block_within p.0.name it) p.1.flat_listed (contains_map (block_within p.0.name) p.0.flat.blocks it own)))

  -- the instances of an application
  each_in : (a : ApplicationTree) → Contains s.applications a → (p : Instance) → Contains (plain_application a).network.instances p → StandsAs sources s ((a.name.name ∷ []) ++ p.name ∷ []) p.kind p.type_name
  each_in a c p cp =
      let g = given plain_instance a.network.instances p cp in
      grind (arith, of_role, in_application)

  block_stands : (b : FlatBlock) → Contains flat.blocks b → BlockStands sources s b
  block_stands b c =
      let f = origin_in_flat_map application_blocks flats b (subst (λ (l : List FlatBlock). Contains l b) whole.blocks c) in
      let o = origin_in_map (block_within f.origin.name) f.origin.flat.blocks b f.has in
      let p = application_of are f.origin f.among in
      let t = origin_in_map plain_application s.applications p.0 p.1.application_listed in
      let net = p.1.is.net.blocks in
      let leaf = leaf_origin net.held o.origin (subst (λ (l : List FlatBlock). Contains l o.origin) net.blocks_are o.among) in
      let own = subst (λ (a : Application). AreInstances (declared sources) a.network.instances net.held) (sym t.gives) net.instances in
      let name = t.origin.name.name in
      let stands = held_stands sources s own (name ∷ []) (each_in t.origin t.among) (record { path = leaf.path; kind = Block; typed = o.origin.type_name }) leaf.listed in
      let there = is_in sources s (name ∷ leaf.path) stands.instance stands.at in
      let inner : leaf.path ≡ there.between ++ stands.instance.name.name ∷ [] = (let at = there.is_path in cc) in
      let named : name ≡ f.origin.name = ap (λ (a : Application). a.name) t.gives ∙ sym p.1.is.name in
      record {
        path = name ∷ leaf.path;
        block = subst (λ (t : List ℕ). StandsAs sources s (name ∷ leaf.path) Block t) (ap (λ (w : FlatBlock). w.type_name) o.gives) stands;
        place =
            same_print (name ∷ leaf.path) ∙ printed-within name leaf.path (λ none. some_more there.between stands.instance.name.name (sym inner ∙ none))
            ∙ (λ i. dotted (named i) (leaf.place i)) ∙ ap (λ (w : FlatBlock). w.path) o.gives;
      }

  blocks_stand : BlocksStand sources s flat
  blocks_stand = record { listed = listed_in; stands = block_stands }

pub system_blocks : (sources : Sources) (unit : List ℕ) (s : SystemTree) (flat : PlainFlat) → IsSystemAt sources unit s → HasFlat sources unit flat → BlocksStand sources s flat
system_blocks sources unit s flat is net = grind (arith, option_map, blocks_stand)
