-- What is known of a system with a plan.
use Rattle.fb_laws.proofs.Common.{ℕ, ◌≡◌, Bool, true, List, [], ◌∷◌, Option, Some, None, refl, ◌∙◌, ap, subst, map, filter, is_none, IsStrictlySortedBy, Contains-append_left, Contains-append_right, names_in_order, in_order_has, from_names, contains_filter, contains_map, contains_nothing, origin_in_map, passes_in_filter, plan_at_is, DeclTree, MappingTree, Sources, tree_at, FlatBlock, Link, PlainFlat, HasFlat, flat_net, link_cmp, cuts_of, home_at, nearest, block_homes, misplaced, unless_faulty, mapping_path, names_used, resource_at, leads_nowhere, applications_in, devices_in, mappings_in, Home, Misplaced, NoSuchBlock, Unmapped, IsPlan, planned, planned_by, with_homes, system_commands, PlainResource, resource_plans, resources_of, IsPlanned, Contains, arith, IsHome, BlocksHaveOneHome, EndsHaveOneHome}
use Rattle.fb_laws.proofs.{HomeLemmas.{HasHome, mapped, one_nearest, one_prefix}, Lists.{by_option, of_either}}
use Rattle.fb_deploy.proofs.Flatten.OneNet.{one_net_only}

-- the homes of the blocks, and the names of the resources
abbrev pub homes_in : Sources → List ℕ → PlainFlat → List Home
homes_in sources system flat = block_homes (mapped sources system) flat.blocks

abbrev pub names_in : Sources → List ℕ → List (List ℕ)
names_in sources system = resources_of (devices_in (tree_at sources system))

-- ---- what is misplaced

-- a block with nothing mapped near it, or a mapping that leads nowhere
pub data IsAstray (sources : Sources) (system : List ℕ) (tree : Option DeclTree) (blocks : List FlatBlock) : Misplaced → Type 0 where
  no_home : (b : FlatBlock) → Contains blocks b → nearest (resource_at (mappings_in tree)) b.path ≡ None → IsAstray sources system tree blocks (Unmapped b.path)
  nothing_there : (m : MappingTree) → Contains (mappings_in tree) m → leads_nowhere sources system (applications_in tree) (names_used m.path) ≡ true → IsAstray sources system tree blocks (NoSuchBlock (mapping_path m))

-- items that pass, by their texts in order
module _ {X : Type 0} (form : List ℕ → Misplaced) (key : X → List ℕ) (test : X → Bool) (xs : List X) where
  passing : (x : X) → Contains xs x → test x ≡ true → Contains (map form (names_in_order (map key (filter test xs)))) (form (key x))
  passing x c t =
      let keys = map key (filter test xs) in
      contains_map form (names_in_order keys) (key x) (in_order_has keys (key x) (contains_map key (filter test xs) x (contains_filter test xs x c t)))

  passed : (P : Misplaced → Type 0) → ((x : X) → Contains xs x → test x ≡ true → P (form (key x))) → (item : Misplaced) → Contains (map form (names_in_order (map key (filter test xs)))) item → P item
  passed P each item c =
      let keys = map key (filter test xs) in
      let o = origin_in_map form (names_in_order keys) item c in
      let k = origin_in_map key (filter test xs) o.origin (from_names keys o.origin o.among) in
      let kept = passes_in_filter test xs k.origin k.among in
      subst P (ap form k.gives ∙ o.gives) (each k.origin kept.among kept.passes)

module _ (sources : Sources) (system : List ℕ) (tree : Option DeclTree) (blocks : List FlatBlock) where
  abbrev without_home : FlatBlock → Bool
  without_home b = is_none (nearest (resource_at (mappings_in tree)) b.path)

  abbrev nowhere : MappingTree → Bool
  nowhere m = leads_nowhere sources system (applications_in tree) (names_used m.path)

  pub told : (item : Misplaced) → IsAstray sources system tree blocks item → Contains (misplaced sources system tree blocks) item
  told item (no_home b c none) =
      Contains-append_left _ _ (Unmapped b.path) (passing (λ (p : List ℕ). Unmapped p) (λ (w : FlatBlock). w.path) without_home blocks b c (ap (λ (o : Option (List ℕ)). is_none o) none))
  told item (nothing_there m c lost) =
      Contains-append_right _ _ (NoSuchBlock (mapping_path m)) (passing (λ (p : List ℕ). NoSuchBlock p) mapping_path nowhere (mappings_in tree) m c lost)

  pub astray : (item : Misplaced) → Contains (misplaced sources system tree blocks) item → IsAstray sources system tree blocks item
  astray =
      of_either _ _
      (passed (λ (p : List ℕ). Unmapped p) (λ (w : FlatBlock). w.path) without_home blocks (IsAstray sources system tree blocks)
      (λ b c none. no_home b c (by_option (nearest (resource_at (mappings_in tree)) b.path) (λ e. e) (λ r e. absurd (let no : ⊥ = cc in no)))))
      (passed (λ (p : List ℕ). NoSuchBlock p) mapping_path nowhere (mappings_in tree) (IsAstray sources system tree blocks) nothing_there)

  -- if nothing is misplaced
  pub none_astray : misplaced sources system tree blocks ≡ [] → (item : Misplaced) → ¬ IsAstray sources system tree blocks item
  none_astray nothing item a = contains_nothing item (subst (λ (l : List Misplaced). Contains l item) nothing (told item a))

-- ---- plans

pub record Known (sources : Sources) (system : List ℕ) (flat : PlainFlat) (cuts : List Link) (resources : List PlainResource) : Type 0 where
  pub placed : misplaced sources system (tree_at sources system) flat.blocks ≡ []
  pub homes : (b : FlatBlock) → Contains flat.blocks b → HasHome (mapped sources system) b
  pub cuts_are : cuts ≡ cuts_of (home_at (homes_in sources system flat)) flat.links
  pub resources_are : resources ≡ resource_plans (system_commands sources system (applications_in (tree_at sources system)) (names_in sources system) flat (homes_in sources system flat)) (names_in sources system)

pub known : (sources : Sources) (system : List ℕ) (flat : PlainFlat) (cuts : List Link) (resources : List PlainResource) → IsPlanned sources system flat cuts resources → Known sources system flat cuts resources
known sources system flat cuts resources p = by (misplaced sources system (tree_at sources system) flat.blocks) refl whole
  where
    plan : IsPlan sources system (planned cuts resources)
    plan = ((plan_at_is sources system (planned cuts resources)).0 p.plan).1

    whole : planned cuts resources ≡ with_homes sources system flat (unless_faulty (misplaced sources system (tree_at sources system) flat.blocks) (homes_in sources system flat))
    whole = plan.plan_is ∙ ap (planned_by sources system) (one_net_only sources system plan.net (flat_net flat) plan.is_net p.is_flat)

    by : (found : List Misplaced) → misplaced sources system (tree_at sources system) flat.blocks ≡ found → planned cuts resources ≡ with_homes sources system flat (unless_faulty found (homes_in sources system flat)) → Known sources system flat cuts resources
    by [] nothing e = record {
      placed = nothing;
      homes = λ b c. by_option (nearest (mapped sources system) b.path)
          (λ none. absurd (none_astray sources system (tree_at sources system) flat.blocks nothing (Unmapped b.path) (no_home b c none)))
          (λ r home. record { on_resource = r; home = home });
      cuts_are = cc;
      resources_are = cc;
    }
    by (m ∷ more) found e = absurd (let no : ⊥ = cc in no)

-- the links of a flat network are in order
pub links_sorted : (sources : Sources) (unit : List ℕ) (flat : PlainFlat) → HasFlat sources unit flat → IsStrictlySortedBy link_cmp flat.links
links_sorted sources unit flat is = let net = is.2 in grind arith

-- what is at a path has one home
pub one_home : BlocksHaveOneHome
one_home sources system path a b p q = let same = one_nearest (mapped sources system) path (Some a) (Some b) p q in cc

pub one_end_home : EndsHaveOneHome
one_end_home sources system blocks end a b p q =
    let first = p.is_at.longest q.block q.is_at.listed q.is_at.prefix in
    let second = q.is_at.longest p.block p.is_at.listed p.is_at.prefix in
    let same = one_prefix p.block.path q.block.path end p.is_at.prefix q.is_at.prefix (omega (arith, first, second)) in
    one_home sources system q.block.path a b (subst (λ (path : List ℕ). IsHome sources system path a) same p.home) q.home
