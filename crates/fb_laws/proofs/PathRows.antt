-- What is made where, and what is misplaced, by what is at the paths of a system and what its mappings name.
use Rattle.fb_laws.proofs.Common.{arith, ◌≡◌, ◌≢◌, ◌↔◌, ℕ, List, [], ◌∷◌, ◌++◌, Option, Some, None, inl, inr, refl, sym, ap, ◌∙◌, subst, map, true≢false, codes, append_cancel_left, Contains-append_cases, Contains-append_left, contains_map, origin_in_map, DeclTree, InstanceTree, SystemTree, system_configuration, Sources, tree_at, faulty, planned, planned_by, HasFlat, IsNet, PlainNet, plan_at_is, PlainFlat, FlatBlock, Link, IsNearest, nearest, misplaced, create_text, resource_at, PlainResource, leads_nowhere, mappings_in, Misplaced, NoSuchBlock, Unmapped, PlacedCommand, is_nearest, IsSystemAt, IsAtPath, IsMappedTo, IsMisplaced, MakesMapped, MisplacedIsTold, NothingPlannedIsMisplaced, making, of_nothing, path_of, unmapped, with_points, IsHome, IsPlanned, BeginsWith, MakesItsBlocks, Contains, Path, true_from_ne_false, Block, plan_at}
use Rattle.fb_laws.proofs.{CommandRows.{blocks_made}, PlanRows.{homes_have}, HomeLemmas.{of_nearest}, Lists.{by_option}, PathBlocks.{BlocksStand, system_blocks}}
use Rattle.fb_laws.proofs.{PathHomes.{home_there, mapped_to, not_mapped, path_plain}, PathStanding.{of_something, somewhere}}
use Rattle.fb_laws.proofs.{PathTexts.{same_path, same_print}, PlannedLemmas.{IsAstray, astray, known, no_home, none_astray, nothing_there, told}}
use Rattle.fb_laws.specs.Paths.{IsMade}

-- ---- the flat network of a plan

flat_planned : (sources : Sources) (unit : List ℕ) (cuts : List Link) (resources : List PlainResource) (net : PlainNet) → IsNet sources unit net → planned cuts resources ≡ planned_by sources unit net → (flat : PlainFlat) × HasFlat sources unit flat
flat_planned sources unit cuts resources net is e = grind arith

-- a plan that names what is misplaced, of a system with this flat network
record IsFaulty (sources : Sources) (unit : List ℕ) (found : List Misplaced) : Type 0 where
  flat : PlainFlat
  is_flat : HasFlat sources unit flat
  is : misplaced sources unit (tree_at sources unit) flat.blocks ≡ found
  some : found ≢ []

flat_faulty : (sources : Sources) (unit : List ℕ) (found : List Misplaced) (net : PlainNet) → IsNet sources unit net → faulty found ≡ planned_by sources unit net → IsFaulty sources unit found
flat_faulty sources unit found net is e = grind arith

-- ---- what is made

module _ (sources : Sources) (unit : List ℕ) (s : SystemTree) (cuts : List Link) (resources : List PlainResource) (is : IsSystemAt sources unit s) (plan : plan_at sources unit ≡ Some (planned cuts resources)) where
  abbrev network : (flat : PlainFlat) × HasFlat sources unit flat
  network = let both = (plan_at_is sources unit (planned cuts resources)).0 plan in flat_planned sources unit cuts resources both.1.net both.1.is_net both.1.plan_is

  abbrev is_planned : IsPlanned sources unit network.0 cuts resources
  is_planned = record { is_flat = network.1; plan = plan }

  blocks : BlocksStand sources s network.0
  blocks = system_blocks sources unit s network.0 is network.1

  mapped : (path : Path) (i : InstanceTree) (r : List ℕ) → IsAtPath sources s path i → IsHome sources unit (with_points path) r → IsMappedTo s path r
  mapped path i r at h = mapped_to sources unit s is network.1.0 path i at r (subst (λ (t : Option DeclTree). IsNearest (resource_at (mappings_in t)) (with_points path) (Some r)) is h)

  module _ (entry : PlainResource) (listed : Contains resources entry) where
    makes : MakesItsBlocks sources unit network.0 entry
    makes = blocks_made sources unit network.0 cuts resources is_planned entry listed

    -- a command that makes a block
    pub only_made : (command : List ℕ) → Contains entry.commands command → BeginsWith (codes "CREATE FB ") command → MakesMapped sources s entry.name command
    only_made command c begins =
        elim (Contains-append_cases (map (λ (l : PlacedCommand). l.command) makes.lines) makes.others command (subst (λ (l : List (List ℕ)). Contains l command) makes.commands c)) [
          | inl d ↦
              let o = origin_in_map (λ (l : PlacedCommand). l.command) makes.lines command d in
              let m = (makes.members o.origin).0 o.among in
              let at = blocks.stands m.block m.listed in
              let b = at.block in
              let to = mapped at.path b.instance entry.name b.at (subst (λ (p : List ℕ). IsHome sources unit p entry.name) (sym at.place) m.home) in
              let made : command ≡ making at.path b.instance = sym o.gives ∙ m.command ∙ (λ i. create_text (sym at.place i) (sym b.of_type i)) in
              search
          | inr d ↦ absurd (makes.no_others command d begins)
        ]

    made_to : (path : Path) (i : InstanceTree) → IsAtPath sources s path i → Contains entry.commands (making path i) → IsMappedTo s path entry.name
    made_to path i at c =
        let m = only_made (making path i) c (with_points path ++ 32 ∷ i.type_name.name, refl) in
        grind (arith, append_cancel_left, same_path, path_plain)

    made_from : (path : Path) (i : InstanceTree) → IsAtPath sources s path i → i.role ≡ Block → IsMappedTo s path entry.name → Contains entry.commands (making path i)
    made_from path i at role h =
        let block : FlatBlock = record { path = with_points path; type_name = i.type_name.name } in
        let line : PlacedCommand = record { place = with_points path; command = making path i; resource = entry.name } in
        let near = subst (λ (t : Option DeclTree). IsNearest (resource_at (mappings_in t)) (with_points path) (Some entry.name)) (sym is) (home_there sources unit s is network.1.0 path i at entry.name h) in
        let c = (makes.members line).1 (record { block = block; listed = blocks.listed path i at role; home = near; place = refl; command = refl; on_home = refl }) in
        subst (λ (l : List (List ℕ)). Contains l (making path i)) (sym makes.commands)
        (Contains-append_left (map (λ (l : PlacedCommand). l.command) makes.lines) makes.others (making path i) (contains_map (λ (l : PlacedCommand). l.command) makes.lines line c))

    pub made_where_mapped : (path : Path) (i : InstanceTree) → IsAtPath sources s path i → i.role ≡ Block → Contains entry.commands (making path i) ↔ IsMappedTo s path entry.name
    made_where_mapped path i at role = (made_to path i at, made_from path i at role)

  pub all_made : (path : Path) (i : InstanceTree) → IsAtPath sources s path i → i.role ≡ Block → IsMade s resources path i
  all_made path i at role =
      let h = homes_have sources unit network.0 cuts resources is_planned (record { path = with_points path; type_name = i.type_name.name }) (blocks.listed path i at role) in
      grind (arith, mapped, made_from)

-- ---- what is misplaced

module _ (sources : Sources) (unit : List ℕ) (s : SystemTree) (is : IsSystemAt sources unit s) (flat : PlainFlat) (net : HasFlat sources unit flat) where
  abbrev Astray : Misplaced → Type 0
  Astray = IsAstray sources unit (Some (system_configuration s)) flat.blocks

  stand : BlocksStand sources s flat
  stand = system_blocks sources unit s flat is net

  is_misplaced : (item : Misplaced) → Astray item → IsMisplaced sources s item
  is_misplaced item (no_home b c none) =
      let o = stand.stands b c in
      let here = subst (λ (p : List ℕ). IsNearest (resource_at s.mappings) p None) (sym o.place) (subst (λ (found : Option (List ℕ)). IsNearest (resource_at s.mappings) b.path found) none (is_nearest (resource_at s.mappings) b.path)) in
      subst (λ (p : List ℕ). IsMisplaced sources s (Unmapped p)) o.place (unmapped o.path o.block.instance o.block.at o.block.in_role (not_mapped sources unit s is net.0 o.path o.block.instance o.block.at here))
  is_misplaced item (nothing_there m c lost) =
      subst (λ (p : List ℕ). IsMisplaced sources s (NoSuchBlock p)) (same_print (path_of m))
      (of_nothing m c (λ none. true≢false (sym lost ∙ ap (leads_nowhere sources unit s.applications) none)) (λ there. true≢false (sym lost ∙ of_something sources unit s is net.0 (path_of m) there)))

  is_astray : (item : Misplaced) → IsMisplaced sources s item → Astray item
  is_astray item (unmapped path i at role none) =
      no_home (record { path = with_points path; type_name = i.type_name.name }) (stand.listed path i at role)
      (by_option (nearest (resource_at s.mappings) (with_points path)) (λ e. e) (λ r e.
      let h = mapped_to sources unit s is net.0 path i at r (of_nearest (resource_at s.mappings) (with_points path) r e) in
      absurd (none h.mapping h.listed h.above)))
  is_astray item (of_nothing m listed written none) = grind (arith, same_print, nothing_there, true_from_ne_false, somewhere)

pub misplaced_told : MisplacedIsTold
misplaced_told sources unit s found is plan =
    let both = (plan_at_is sources unit (faulty found)).0 plan in
    let f = flat_faulty sources unit found both.1.net both.1.is_net both.1.plan_is in
    let whole : misplaced sources unit (Some (system_configuration s)) f.flat.blocks ≡ found = ap (λ (t : Option DeclTree). misplaced sources unit t f.flat.blocks) (sym is) ∙ f.is in
    record {
      some = f.some;
      members = λ item. (
        λ c. is_misplaced sources unit s is f.flat f.is_flat item (astray sources unit (Some (system_configuration s)) f.flat.blocks item (subst (λ (l : List Misplaced). Contains l item) (sym whole) c)),
        λ m. subst (λ (l : List Misplaced). Contains l item) whole (told sources unit (Some (system_configuration s)) f.flat.blocks item (is_astray sources unit s is f.flat f.is_flat item m)),
      );
    }

pub nothing_planned : NothingPlannedIsMisplaced
nothing_planned sources unit s cuts resources is plan item m =
    let p = is_planned sources unit s cuts resources is plan in
    let flat = (network sources unit s cuts resources is plan).0 in
    let k = known sources unit flat cuts resources p in
    let none : misplaced sources unit (Some (system_configuration s)) flat.blocks ≡ [] = ap (λ (t : Option DeclTree). misplaced sources unit t flat.blocks) (sym is) ∙ k.placed in
    none_astray sources unit (Some (system_configuration s)) flat.blocks none item (is_astray sources unit s is flat p.is_flat item m)
