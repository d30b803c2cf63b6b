-- When a system has commands, the resources of homes, and the links that are cut.
use Rattle.fb_laws.proofs.Common.{ℕ, List, sym, ◌∙◌, ap, false≢true, false_from_ne_true, plan_at_is, Sources, tree_at, PlainFlat, HasFlat, flat_net, cuts_of, home_at, mapping_path, names_used, IsSystem, leads_nowhere, applications_in, misplaced, unless_faulty, Misplaced, NoSuchBlock, planned, with_homes, system_commands, resource_plans, HasCommands, IsPlacedWhole, PlacedSystemsHaveCommands, ◌≡◌, true, Option, Some, None, refl, subst, find, NameUse, contains_flat_map, contains_map, contains_nothing, origin_in_map, passes_in_find, named_among, resource_names, DeclTree, DeviceTree, MappingTree, ResourceTree, SystemTree, system_configuration, on_itself, NoSuchResource, Fault, has_resource, home_span, dotted, Link, nearest, mapping_home, devices_in, mappings_in, PlainResource, device_resources, resource_plan, resources_of, IsPlanned, HomesHaveCommands, Contains, by_bool, arith, Bool, not, ◌⊎◌, inl, inr, bytes_eq, true≢false, IsStrictlySortedBy-filter, contains_filter, passes_in_filter, link_cmp, is_cut, same_home, JoinsResources, StandsOn, IsMade, AreCuts, IsCutOrMade}
use Rattle.fb_laws.proofs.HomeLemmas.{mapped, nearest_of, of_nearest, found_in, same_bytes, bytes_same, home_end, some_home}
use Rattle.fb_laws.proofs.{PlannedLemmas.{IsAstray, astray, homes_in, known, names_in, no_home, none_astray, nothing_there, Known, links_sorted, one_end_home}, Lists.{no_members}}
use Rattle.fb_laws.proofs.{Lists.{by_option}, MappingRows.{have_homes, holds, holds_first, is_named, lost_where}, PathHolders.{no_report}, PlanEnds.{net_prefixes}}

module _ (sources : Sources) (system : List ℕ) (flat : PlainFlat) where
  whole_of : HasCommands sources system flat → IsPlacedWhole sources system flat
  whole_of h =
      let k = known sources system flat h.cuts h.resources h.is_planned in
      record {
        homes = λ block c. let own = k.homes block c in (own.on_resource, of_nearest (mapped sources system) block.path own.on_resource own.home);
        mappings = λ m c. false_from_ne_true (leads_nowhere sources system (applications_in (tree_at sources system)) (names_used m.path))
            (λ lost. none_astray sources system (tree_at sources system) flat.blocks k.placed (NoSuchBlock (mapping_path m)) (nothing_there m c lost));
      }

  not_astray : IsPlacedWhole sources system flat → (item : Misplaced) → ¬ IsAstray sources system (tree_at sources system) flat.blocks item
  not_astray w item (no_home b c none) = let home = w.homes b c in let there = nearest_of (mapped sources system) b.path home.0 home.1 in cc
  not_astray w item (nothing_there m c lost) = false≢true (sym (w.mappings m c) ∙ lost)

  commands_of : IsSystem sources system → HasFlat sources system flat → IsPlacedWhole sources system flat → HasCommands sources system flat
  commands_of is net w =
      let tree = tree_at sources system in
      let homes = homes_in sources system flat in
      let cuts = cuts_of (home_at homes) flat.links in
      let resources = resource_plans (system_commands sources system (applications_in tree) (names_in sources system) flat homes) (names_in sources system) in
      let nothing = no_members (misplaced sources system tree flat.blocks) (λ item c. not_astray w item (astray sources system tree flat.blocks item c)) in
      record {
        cuts = cuts;
        resources = resources;
        is_planned = record {
          is_flat = net;
          plan = (plan_at_is sources system (planned cuts resources)).1 (
            is,
            record { net = flat_net flat; is_net = net; plan_is = sym (ap (λ (found : List Misplaced). with_homes sources system flat (unless_faulty found homes)) nothing) },
          );
        };
      }

pub have_commands : PlacedSystemsHaveCommands
have_commands sources system flat is net = (whole_of sources system flat, commands_of sources system flat is net)

-- ---- the resource of a mapping

device_has : (s : SystemTree) (m : MappingTree) → has_resource s.devices m.device.name m.resource.name ≡ true → Contains (resources_of s.devices) (mapping_home m)
device_has s m e =
    let held = λ (o : Option DeviceTree) (g : find (is_named m.device.name) s.devices ≡ o). ap (λ (o : Option DeviceTree). holds o m.resource.name) (sym g) ∙ sym (holds_first s m) ∙ e in
    by_option (find (is_named m.device.name) s.devices) (λ none. absurd (false≢true (held None none))) (λ d g.
    let k = passes_in_find (is_named m.device.name) s.devices d g in
    let n = named_among (resource_names d) m.resource.name (held (Some d) g) in
    let r = origin_in_map (λ (r : ResourceTree). r.name) d.resources n.0 n.1 in
    let at = contains_map (λ (r : ResourceTree). dotted d.name.name r.name.name) d.resources r.origin r.among in
    let home : dotted d.name.name r.origin.name.name ≡ mapping_home m = (λ i. dotted (same_bytes d.name.name m.device.name k.passes i) ((ap (λ (w : NameUse). w.name) r.gives ∙ n.2) i)) in
    contains_flat_map device_resources s.devices d (mapping_home m) k.among (subst (λ (t : List ℕ). Contains (device_resources d) t) home at))

module _ (sources : Sources) (system : List ℕ) (flat : PlainFlat) (is : HasFlat sources system flat) where
  -- a system with a flat network has no faults
  has_home : (t : Option DeclTree) → tree_at sources system ≡ t → (m : MappingTree) → Contains (mappings_in t) m → Contains (resources_of (devices_in t)) (mapping_home m)
  has_home (Some (system_configuration s)) e m c =
      by_bool (has_resource s.devices m.device.name m.resource.name) (device_has s m) (λ g.
      let fault : Fault = record { code = NoSuchResource; span = home_span m } in
      let has = (have_homes sources system (home_span m)).1 (record { system = s; declared = e; mapping = m; listed = c; lost = lost_where s m g; starts = refl; ends = refl }) in
      absurd (contains_nothing fault (subst (λ (l : List Fault). Contains l fault) (no_report sources system is.0 system on_itself).mappings has)))
  has_home t e m c = absurd (contains_nothing m c)

  -- what is mapped to is a resource of the system
  pub home_named : (path r : List ℕ) → nearest (mapped sources system) path ≡ Some r → Contains (names_in sources system) r
  home_named path r e =
      let n = of_nearest (mapped sources system) path r e in
      let f = found_in mapping_path mapping_home (mappings_in (tree_at sources system)) n.0 r n.2 in
      subst (λ (t : List ℕ). Contains (names_in sources system) t) f.gives (has_home (tree_at sources system) refl f.item f.among)

-- a resource of the system has an entry in the plan
pub entry_named : (sources : Sources) (system : List ℕ) (flat : PlainFlat) (cuts : List Link) (resources : List PlainResource) → IsPlanned sources system flat cuts resources → (r : List ℕ) → Contains (names_in sources system) r → (entry : PlainResource) × Contains resources entry × (entry.name ≡ r)
entry_named sources system flat cuts resources p r named =
    let k = known sources system flat cuts resources p in
    let plans = resource_plan (system_commands sources system (applications_in (tree_at sources system)) (names_in sources system) flat (homes_in sources system flat)) in
    (plans r, subst (λ (l : List PlainResource). Contains l (plans r)) (sym k.resources_are) (contains_map plans (names_in sources system) r named), refl)

pub homes_have : HomesHaveCommands
homes_have sources system flat cuts resources p block c =
    let own = (known sources system flat cuts resources p).homes block c in
    let entry = entry_named sources system flat cuts resources p own.on_resource (home_named sources system flat p.is_flat block.path own.on_resource own.home) in
    record { entry = entry.0; listed = entry.1; home = of_nearest (mapped sources system) block.path entry.0.name (own.home ∙ ap (λ (r : List ℕ). Some r) (sym entry.2)) }

module _ (sources : Sources) (system : List ℕ) (flat : PlainFlat) (cuts : List Link) (resources : List PlainResource) (p : IsPlanned sources system flat cuts resources) where
  abbrev it : Known sources system flat cuts resources
  it = known sources system flat cuts resources p

  abbrev cut : Link → Bool
  cut = is_cut (home_at (homes_in sources system flat))

  abbrev Stands : List ℕ → List ℕ → Type 0
  Stands = StandsOn sources system flat.blocks

  -- the resources of the ends of a link
  end_homes : (link : Link) → Contains flat.links link → (a : List ℕ) × (b : List ℕ) × Stands link.from a × Stands link.to b
  end_homes link c =
      let ends = net_prefixes sources system flat p.is_flat link c in
      let from = some_home sources system flat.blocks it.homes link.from ends.0.block ends.0.listed ends.0.prefix in
      let to = some_home sources system flat.blocks it.homes link.to ends.1.block ends.1.listed ends.1.prefix in
      (from.0, to.0, from.1, to.1)

  cut_is : (link : Link) (a b : List ℕ) → Stands link.from a → Stands link.to b → cut link ≡ not (bytes_eq a b)
  cut_is link a b from to = λ i. not (same_home (home_end sources system flat.blocks it.homes link.from a from i) (home_end sources system flat.blocks it.homes link.to b to i))

  joins_two : (link : Link) → Contains (cuts_of (home_at (homes_in sources system flat)) flat.links) link → Contains flat.links link × JoinsResources sources system flat link
  joins_two link c =
      let kept = passes_in_filter cut flat.links link c in
      let h = end_homes link kept.among in
      (kept.among, record { from_home = h.0; to_home = h.1; from = h.2; to = h.3; differ = λ e. false≢true (sym (cut_is link h.0 h.1 h.2 h.3 ∙ ap not (bytes_same h.0 h.1 e)) ∙ kept.passes) })

  cuts_two : (link : Link) → Contains flat.links link × JoinsResources sources system flat link → Contains (cuts_of (home_at (homes_in sources system flat)) flat.links) link
  cuts_two link (c, j) =
      contains_filter cut flat.links link c
      (cut_is link j.from_home j.to_home j.from j.to ∙ ap not (false_from_ne_true (bytes_eq j.from_home j.to_home) (λ e. j.differ (same_bytes j.from_home j.to_home e))))

  made_on : (link : Link) → Contains flat.links link → (r : List ℕ) → Stands link.from r → Stands link.to r → IsMade sources system flat resources link
  made_on link c r from to =
      let named = home_named sources system flat p.is_flat from.block.path r (nearest_of (mapped sources system) from.block.path r from.home) in
      let entry = entry_named sources system flat cuts resources p r named in
      grind arith

  cut_or : (link : Link) → Contains flat.links link → Contains (cuts_of (home_at (homes_in sources system flat)) flat.links) link ⊎ IsMade sources system flat resources link
  cut_or link c =
      let h = end_homes link c in
      by_bool (bytes_eq h.0 h.1) (λ same. inr (made_on link c h.0 h.2 (subst (Stands link.to) (sym (same_bytes h.0 h.1 same)) h.3))) (λ other.
      inl (cuts_two link (c, record { from_home = h.0; to_home = h.1; from = h.2; to = h.3; differ = λ e. true≢false (sym (bytes_same h.0 h.1 e) ∙ other) })))

  no_cut : (link : Link) → Contains (cuts_of (home_at (homes_in sources system flat)) flat.links) link → ¬ IsMade sources system flat resources link
  no_cut link c m =
      let j = (joins_two link c).1 in
      j.differ (one_end_home sources system flat.blocks link.from j.from_home m.entry.name j.from m.within.from ∙ one_end_home sources system flat.blocks link.to m.entry.name j.to_home m.within.to j.to)

  pub cuts_join : AreCuts sources system flat cuts
  cuts_join = subst (AreCuts sources system flat) (sym it.cuts_are) (record {
    members = λ link. (joins_two link, cuts_two link);
    in_order = IsStrictlySortedBy-filter link_cmp cut flat.links (links_sorted sources system flat p.is_flat);
  })

  pub cut_or_made : (link : Link) → Contains flat.links link → IsCutOrMade sources system flat cuts resources link
  cut_or_made link c = subst (λ (l : List Link). IsCutOrMade sources system flat l resources link) (sym it.cuts_are) (record { either = cut_or link c; not_both = no_cut link })
