-- The commands of each resource, in other words.
use Rattle.fb_laws.proofs.Common.{arith, ℕ, ◌≡◌, Bool, true, false, cond, List, [], ◌∷◌, ◌++◌, Option, Some, None, refl, sym, ◌∙◌, ap, map, filter, option_map, cons_option, bytes_eq, map-append, filter-append, IsStrictlySortedBy, IsStrictlySortedBy-filter, in_order-members, in_order-sorted, contains_filter, passes_in_filter, Link, same_home, nearest, connection_commands, connection_text, link_resource, command_cmp, command_cmp_total, commands_for, PlacedCommand, ResourceCommand, Contains, in_order, ◌≢◌, not, ◌||◌, subst, append_assoc, ◌==◌, true≢false, codes, filter_map, flat_map, eqb-false, not-true, or_cases, contains_flat_map, contains_map, contains_nothing, origin_in_flat_map, origin_in_map, DeclTree, Sources, text_or_empty, tree_at, link_cmp, home_at, block_home, PlainFlat, PlainResolved, path_names, resolved_at, applications_in, devices_in, Home, create_command, create_commands, create_text, home_commands, commands_at, write_command, write_commands, system_commands, start_text, dotted, PlainResource, resource_plan, resource_plans, resources_of, IsPlanned, AllBegin, BeginsWith, IsInOrder, IsWithin, MakesBlock, MakesItsBlocks, MakesItsLinks, NoneBegins, ResourcesHaveTheirCommands, SetsItsParameters, SetsParameter, StandsOnce, IsHome, ◌↔◌, bytes_decides}
use Rattle.fb_laws.proofs.Lists.{iff}
use Rattle.fb_laws.proofs.{HomeLemmas.{bytes_same, same_bytes, end_home, home_end, home_listed, mapped, nearest_of, of_home, of_nearest}, FirstLemmas.{at_contained}}
use Rattle.fb_laws.proofs.{Lists.{by_option, given, gives_member, of_either, no_members, split_at}, PlannedLemmas.{Known, homes_in, known, links_sorted, names_in}}
use Rattle.fb_placing.proofs.PlacedLemmas.{command_cmp-IsAntisymmetric}
use Rattle.fb_placing.specs.ConstantTexts.{written}

-- ---- the parts of the commands for a resource

abbrev pub lines_on : List ℕ → List PlacedCommand → List PlacedCommand
lines_on r lines = filter (λ (l : PlacedCommand). bytes_eq r l.resource) lines

pub for_each : {X : Type 0} (order : X → ResourceCommand) (items : List X) (r : List ℕ) → commands_for (map order items) r ≡ map (λ (x : X). (order x).command) (filter (λ (x : X). bytes_eq r (order x).resource) items)
for_each order [] r = refl
for_each {X = X} order (x ∷ xs) r = grind (arith, bytes_eq, for_each order xs r)

abbrev pub is_resource : List ℕ → Option (List ℕ) → Bool
is_resource r None = false
is_resource r (Some q) = bytes_eq r q

is_of : (r : List ℕ) (o : Option (List ℕ)) → is_resource r o ≡ true ↔ (o ≡ Some r)
is_of r o = iff (λ e. grind (arith, bytes_decides)) (λ e. ap (is_resource r) e ∙ bytes_same r r refl)

abbrev pub link_command : Link → List ℕ
link_command l = connection_text l.from l.to

abbrev pub links_on : (List ℕ → Option (List ℕ)) → List ℕ → List Link → List Link
links_on homes r links = filter (λ (l : Link). is_resource r (link_resource homes l)) links

pub for_links : (homes : List ℕ → Option (List ℕ)) (links : List Link) (r : List ℕ) → commands_for (connection_commands homes links) r ≡ map link_command (links_on homes r links)
for_links homes [] r = refl
for_links homes (l ∷ ls) r = grind (arith, bytes_eq, cons_option, option_map, for_links homes ls r)

-- ---- the resource of a link

link_on : (homes : List ℕ → Option (List ℕ)) (l : Link) (r : List ℕ) → link_resource homes l ≡ Some r ↔ ((nearest homes l.from ≡ Some r) × (nearest homes l.to ≡ Some r))
link_on homes l r = iff (λ e. grind (arith, bytes_decides)) (λ h. (λ i. cond (same_home (h.0 i) (h.1 i)) (h.0 i) None) ∙ ap (λ (t : Bool). cond t (Some r) None) (bytes_same r r refl))

-- ---- lines in order that are for a resource

module _ (r : List ℕ) (lines : List PlacedCommand) where
  pub line_on : (line : PlacedCommand) → Contains (lines_on r (in_order command_cmp lines)) line → Contains lines line × (line.resource ≡ r)
  line_on line c =
      let kept = passes_in_filter (λ (l : PlacedCommand). bytes_eq r l.resource) (in_order command_cmp lines) line c in
      ((in_order-members command_cmp command_cmp_total command_cmp-IsAntisymmetric lines line).0 kept.among, sym (same_bytes r line.resource kept.passes))

  pub on_line : (line : PlacedCommand) → Contains lines line → line.resource ≡ r → Contains (lines_on r (in_order command_cmp lines)) line
  on_line line c on =
      contains_filter (λ (l : PlacedCommand). bytes_eq r l.resource) (in_order command_cmp lines) line ((in_order-members command_cmp command_cmp_total command_cmp-IsAntisymmetric lines line).1 c) (bytes_same r line.resource (sym on))

  pub lines_sorted : IsStrictlySortedBy command_cmp (lines_on r (in_order command_cmp lines))
  lines_sorted = IsStrictlySortedBy-filter command_cmp (λ (l : PlacedCommand). bytes_eq r l.resource) (in_order command_cmp lines) (in_order-sorted command_cmp command_cmp_total lines)

-- ---- what commands begin with

-- whether two words differ at a place that both have
abbrev differ : List ℕ → List ℕ → Bool
differ (x ∷ a) (y ∷ b) = not (x == y) || differ a b
differ a b = false

apart : (a b rest more : List ℕ) → differ a b ≡ true → a ++ rest ≢ b ++ more
apart (x ∷ a) (y ∷ b) rest more d e = grind (arith, or_cases, eqb-false, not-true, apart a b rest more)
apart a b rest more d e = true≢false (sym d)

-- commands that begin otherwise
none_of : (start other : List ℕ) (commands : List (List ℕ)) → differ other start ≡ true → AllBegin other commands → NoneBegins start commands
none_of start other commands d all command c p = let q = all command c in apart other start q.0 p.0 d (sym q.1 ∙ p.1)

-- commands of items that begin so
begin_all : {X : Type 0} (start : List ℕ) (f : X → List ℕ) (xs : List X) → ((x : X) → Contains xs x → BeginsWith start (f x)) → AllBegin start (map f xs)
begin_all start f xs each command c = let o = origin_in_map f xs command c in subst (λ (t : List ℕ). BeginsWith start t) o.gives (each o.origin o.among)

-- an item that occurs once is kept once
none_kept : (r : List ℕ) (names : List (List ℕ)) → ¬ Contains names r → filter (λ (n : List ℕ). bytes_eq r n) names ≡ []
none_kept r names absent =
    no_members (filter (λ (n : List ℕ). bytes_eq r n) names)
    (λ n c. let kept = passes_in_filter (λ (n : List ℕ). bytes_eq r n) names n c in absent (subst (λ (w : List ℕ). Contains names w) (sym (same_bytes r n kept.passes)) kept.among))

once_kept : (r : List ℕ) (names : List (List ℕ)) → Contains names r → StandsOnce names r → filter (λ (n : List ℕ). bytes_eq r n) names ≡ r ∷ []
once_kept r names c once =
    let o = split_at names c.0 r (at_contained names r c) in
    grind (arith, bytes_eq, filter-append, none_kept, bytes_same)

abbrev texts : List PlacedCommand → List (List ℕ)
texts lines = map (λ (l : PlacedCommand). l.command) lines

same_line : (line : PlacedCommand) (a b c : List ℕ) → line.place ≡ a → line.command ≡ b → line.resource ≡ c → (let l : PlacedCommand = record { place = a; command = b; resource = c } in l) ≡ line
same_line line a b c e f g = λ i. record { place = sym e i; command = sym f i; resource = sym g i }

-- ---- the commands of a plan

module _ (sources : Sources) (system : List ℕ) (flat : PlainFlat) (cuts : List Link) (resources : List PlainResource) (p : IsPlanned sources system flat cuts resources) where
  abbrev it : Known sources system flat cuts resources
  it = known sources system flat cuts resources p

  abbrev homes : List ℕ → Option (List ℕ)
  homes = home_at (homes_in sources system flat)

  abbrev at_home : Home → List PlacedCommand
  at_home home = home_commands sources system (applications_in (tree_at sources system)) home

  abbrev commands : List ResourceCommand
  commands = system_commands sources system (applications_in (tree_at sources system)) (names_in sources system) flat (homes_in sources system flat)

  module _ (r : List ℕ) where
    abbrev makes : List PlacedCommand
    makes = lines_on r (create_commands homes flat.blocks)

    abbrev writes : List PlacedCommand
    writes = lines_on r (write_commands sources system (applications_in (tree_at sources system)) (homes_in sources system flat))

    abbrev joins : List Link
    joins = links_on homes r flat.links

    abbrev starts : List (List ℕ)
    starts = map start_text (filter (λ (n : List ℕ). bytes_eq r n) (names_in sources system))

    abbrev entry : PlainResource
    entry = record { name = r; commands = commands_for commands r }

    parts : entry.commands ≡ texts makes ++ texts writes ++ map link_command joins ++ starts
    parts = grind (arith, filter-append, bytes_eq, map-append, for_each, for_links)

    -- blocks

    make_to : (line : PlacedCommand) → Contains makes line → MakesBlock sources system flat r line
    make_to line c =
        let on = line_on r (filter_map (create_command homes) flat.blocks) line c in
        let o = given (create_command homes) flat.blocks line on.0 in
        let own = it.homes o.origin o.among in
        let there = home_listed (mapped sources system) flat.blocks o.origin own.on_resource o.among own.home in
        grind (arith, of_nearest)

    make_from : (line : PlacedCommand) → MakesBlock sources system flat r line → Contains makes line
    make_from line m =
        let at : homes m.block.path ≡ Some r = home_listed (mapped sources system) flat.blocks m.block r m.listed (nearest_of (mapped sources system) m.block.path r m.home) in
        let same = same_line line m.block.path (create_text m.block.path m.block.type_name) r m.place m.command m.on_home in
        let gives : create_command homes m.block ≡ Some line = cc in
        on_line r (filter_map (create_command homes) flat.blocks) line (gives_member (create_command homes) flat.blocks m.block line m.listed gives) m.on_home

    all_made : AllBegin (codes "CREATE FB ") (texts makes)
    all_made = begin_all (codes "CREATE FB ") (λ (l : PlacedCommand). l.command) makes (λ line c. let m = make_to line c in (m.block.path ++ 32 ∷ m.block.type_name, m.command))

    -- parameters

    set_to : (line : PlacedCommand) → Contains writes line → SetsParameter sources system flat r line
    set_to line c =
        let on = line_on r (flat_map at_home (homes_in sources system flat)) line c in
        let w = origin_in_flat_map at_home (homes_in sources system flat) line on.0 in
        let b = of_home (mapped sources system) flat.blocks w.origin w.among in
        let at = λ (o : Option PlainResolved) (e : resolved_at sources system (applications_in (tree_at sources system)) (path_names w.origin.path) ≡ o). subst (λ (o : Option PlainResolved). Contains (commands_at sources w.origin o) line) e w.has in
        by_option (resolved_at sources system (applications_in (tree_at sources system)) (path_names w.origin.path)) (λ none. absurd (contains_nothing line (at None none))) (λ s e.
        let o = origin_in_map (write_command (text_or_empty sources s.unit) w.origin) s.instance.parameters line (at (Some s) e) in
        let same : w.origin.resource ≡ r = ap (λ (l : PlacedCommand). l.resource) o.gives ∙ on.1 in
        let listed = subst (λ (q : List ℕ). Contains flat.blocks (record { path = q; type_name = b.block.type_name })) b.placed b.listed in
        let home : IsHome sources system w.origin.path r = of_nearest (mapped sources system) w.origin.path r (b.home ∙ ap (λ (w : List ℕ). Some w) same) in
        let place = sym (ap (λ (l : PlacedCommand). l.place) o.gives) in
        let command = sym (ap (λ (l : PlacedCommand). l.command) o.gives) in
        search)

    set_from : (line : PlacedCommand) → SetsParameter sources system flat r line → Contains writes line
    set_from line m =
        let home : Home = record { path = m.block.path; resource = r } in
        let near = nearest_of (mapped sources system) m.block.path r m.home in
        let is_home : block_home (mapped sources system) m.block ≡ Some home = cc in
        let at = gives_member (block_home (mapped sources system)) flat.blocks m.block home m.listed is_home in
        let line_is : write_command (text_or_empty sources m.standing.unit) home m.parameter ≡ line = same_line line _ _ r m.place m.command m.on_home in
        let here = contains_map (write_command (text_or_empty sources m.standing.unit) home) m.standing.instance.parameters m.parameter m.given in
        let has : Contains (at_home home) line = subst (λ (o : Option PlainResolved). Contains (commands_at sources home o) line) (sym m.stands) (subst (λ (l : PlacedCommand). Contains (commands_at sources home (Some m.standing)) l) line_is here) in
        on_line r (flat_map at_home (homes_in sources system flat)) line (contains_flat_map at_home (homes_in sources system flat) home line at has) m.on_home

    all_set : AllBegin (codes "WRITE ") (texts writes)
    all_set =
        begin_all (codes "WRITE ") (λ (l : PlacedCommand). l.command) writes
        (λ line c. let m = set_to line c in (dotted m.block.path m.parameter.name.name ++ 32 ∷ written (text_or_empty sources m.standing.unit) m.parameter.value, m.command))

    -- links

    join_to : (link : Link) → Contains joins link → IsWithin sources system flat r link
    join_to link c =
        let kept = passes_in_filter (λ (l : Link). is_resource r (link_resource homes l)) flat.links link c in
        let on = (link_on homes link r).0 ((is_of r (link_resource homes link)).0 kept.passes) in
        record { listed = kept.among; from = end_home sources system flat.blocks it.homes link.from r on.0; to = end_home sources system flat.blocks it.homes link.to r on.1 }

    join_from : (link : Link) → IsWithin sources system flat r link → Contains joins link
    join_from link w =
        let on = (link_on homes link r).1 (home_end sources system flat.blocks it.homes link.from r w.from, home_end sources system flat.blocks it.homes link.to r w.to) in
        contains_filter (λ (l : Link). is_resource r (link_resource homes l)) flat.links link w.listed ((is_of r (link_resource homes link)).1 on)

    all_joined : AllBegin (codes "CREATE CONNECTION ") (map link_command joins)
    all_joined = begin_all (codes "CREATE CONNECTION ") link_command joins (λ l c. (l.from ++ 32 ∷ l.to, refl))

    -- starts

    start_is : (command : List ℕ) → Contains starts command → command ≡ start_text r
    start_is command c =
        let o = origin_in_map start_text (filter (λ (n : List ℕ). bytes_eq r n) (names_in sources system)) command c in
        let kept = passes_in_filter (λ (n : List ℕ). bytes_eq r n) (names_in sources system) o.origin o.among in
        sym o.gives ∙ ap start_text (sym (same_bytes r o.origin kept.passes))

    all_started : AllBegin (codes "START ") starts
    all_started command c = (r, start_is command c)

    started : Contains (names_in sources system) r → Contains starts (start_text r)
    started c = contains_map start_text (filter (λ (n : List ℕ). bytes_eq r n) (names_in sources system)) r (contains_filter (λ (n : List ℕ). bytes_eq r n) (names_in sources system) r c (bytes_same r r refl))

  -- names and order

  plan_names : (names : List (List ℕ)) → map (λ (e : PlainResource). e.name) (resource_plans commands names) ≡ names
  plan_names [] = refl
  plan_names (n ∷ ns) = ap (λ (l : List (List ℕ)). n ∷ l) (plan_names ns)

  names_are : map (λ (e : PlainResource). e.name) resources ≡ names_in sources system
  names_are = ap (map (λ (e : PlainResource). e.name)) it.resources_are ∙ plan_names (names_in sources system)

  ordered_at : (r : List ℕ) → Contains (names_in sources system) r → IsInOrder (map (λ (e : PlainResource). e.name) resources) (entry r)
  ordered_at r c =
      let one_start = λ (once : StandsOnce (map (λ (e : PlainResource). e.name) resources) r). ap (map start_text) (once_kept r (names_in sources system) c (subst (λ (l : List (List ℕ)). StandsOnce l r) names_are once)) in
      search (parts r, all_made r, all_set r, all_joined r, started r c, start_is r)

  -- what is so of the commands of each resource is so of each entry
  of_entry : (P : PlainResource → Type 0) → ((r : List ℕ) → Contains (names_in sources system) r → P (entry r)) → (e : PlainResource) → Contains resources e → P e
  of_entry P each e c =
      let o = origin_in_map (resource_plan commands) (names_in sources system) e (subst (λ (l : List PlainResource). Contains l e) it.resources_are c) in
      subst P o.gives (each o.origin o.among)

  pub blocks_made : (e : PlainResource) → Contains resources e → MakesItsBlocks sources system flat e
  blocks_made = of_entry (MakesItsBlocks sources system flat) (λ r c. record {
    lines = makes r;
    others = texts (writes r) ++ map link_command (joins r) ++ starts r;
    commands = parts r ∙ simp append_assoc;
    members = λ line. (make_to r line, make_from r line);
    in_order = lines_sorted r (filter_map (create_command homes) flat.blocks);
    no_others =
        of_either (texts (writes r) ++ map link_command (joins r)) (starts r)
        (of_either (texts (writes r)) (map link_command (joins r)) (none_of (codes "CREATE FB ") (codes "WRITE ") (texts (writes r)) refl (all_set r)) (none_of (codes "CREATE FB ") (codes "CREATE CONNECTION ") (map link_command (joins r)) refl (all_joined r)))
        (none_of (codes "CREATE FB ") (codes "START ") (starts r) refl (all_started r));
  })

  pub parameters_set : (e : PlainResource) → Contains resources e → SetsItsParameters sources system flat e
  parameters_set = of_entry (SetsItsParameters sources system flat) (λ r c. record {
    before = texts (makes r);
    lines = writes r;
    behind = map link_command (joins r) ++ starts r;
    commands = parts r ∙ simp append_assoc;
    members = λ line. (set_to r line, set_from r line);
    in_order = lines_sorted r (flat_map at_home (homes_in sources system flat));
    none_before = none_of (codes "WRITE ") (codes "CREATE FB ") (texts (makes r)) refl (all_made r);
    none_behind =
        of_either (map link_command (joins r)) (starts r) (none_of (codes "WRITE ") (codes "CREATE CONNECTION ") (map link_command (joins r)) refl (all_joined r)) (none_of (codes "WRITE ") (codes "START ") (starts r) refl (all_started r));
  })

  pub links_made : (e : PlainResource) → Contains resources e → MakesItsLinks sources system flat e
  links_made = of_entry (MakesItsLinks sources system flat) (λ r c. record {
    before = texts (makes r) ++ texts (writes r);
    links = joins r;
    behind = starts r;
    commands = parts r;
    members = λ link. (join_to r link, join_from r link);
    in_order = IsStrictlySortedBy-filter link_cmp (λ (l : Link). is_resource r (link_resource homes l)) flat.links (links_sorted sources system flat p.is_flat);
    none_before =
        of_either (texts (makes r)) (texts (writes r)) (none_of (codes "CREATE CONNECTION ") (codes "CREATE FB ") (texts (makes r)) refl (all_made r)) (none_of (codes "CREATE CONNECTION ") (codes "WRITE ") (texts (writes r)) refl (all_set r));
    none_behind = none_of (codes "CREATE CONNECTION ") (codes "START ") (starts r) refl (all_started r);
  })

  pub in_order_of : (e : PlainResource) → Contains resources e → IsInOrder (map (λ (e : PlainResource). e.name) resources) e
  in_order_of = of_entry (IsInOrder (map (λ (e : PlainResource). e.name) resources)) ordered_at

pub resources_have : ResourcesHaveTheirCommands
resources_have sources system flat cuts resources p s e = names_are sources system flat cuts resources p ∙ ap (λ (o : Option DeclTree). resources_of (devices_in o)) e
