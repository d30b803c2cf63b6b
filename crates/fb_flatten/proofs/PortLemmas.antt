-- By sort and name, the ports in plain are those that the checks of networks find.
use Rattle.std.proofs.Common.{◌≡◌, ℕ, Bool, false, cond, ◌&&◌, List, [], ◌∷◌, ◌++◌, map, Option, Some, None, option_map, refl, sym, ap, ◌∙◌, subst, arith}
use Rattle.std.proofs.lemmas.List.Folds.{find-append}
use Rattle.std.specs.{List.{filter, filter_map, find}, Option.{option_and_then, option_or}}
use Rattle.fb_types.specs.{Tree.Tree.{DeclTree, block_type, adapter_type, subapplication_type}, Iface.Names.{is_same, stands_for}}
use Rattle.fb_types.specs.Iface.Ports.{Meanings, events_in, instances_in, meanings_in, same_role, same_side, variables_in}
use Rattle.fb_types.specs.{Ports.{plain_adapter, plain_data, plain_event, plain_ports}, Tree.declared.interface.Side.{Side}}
use Rattle.fb_types.specs.{Tree.declared.interface.Side.TheVariants.{Input, Output}, Tree.declared.network.Role.{Role}, Tree.declared.network.Sort.{Sort}}
use Rattle.fb_types.specs.{Iface.Sides.{is_data_on}, Iface.Ports.{DeclaredEvent}}
use Rattle.fb_types.specs.Iface.Ports.{DeclaredInstance, DeclaredVariable}
use Rattle.fb_types.specs.{Network.Clean.{port_named}, Network.Sorts.{same_sort}, Network.declared.network.Port.{Port}, Networks.{network_of}}
use Rattle.fb_types.specs.Tree.declared.network.Role.TheVariants as roles
use Rattle.fb_types.specs.Tree.declared.network.Sort.TheVariants as sorts
use Rattle.fb_types.proofs.Iface.TreeLemmas.{map_itself}
use Rattle.fb_faults.specs.{Netcheck.Ends.{adapter_port, data_port, event_port, port_in}, Netcheck.declared.ends.Flow.{Flow}}
use Rattle.fb_faults.specs.Netcheck.declared.ends.Port.{Port as JudgedPort}
use Rattle.fb_faults.specs.Netcheck.declared.ends.Flow.TheVariants as flows
use Rattle.fb_flatten.proofs.NameLemmas.{Distinct, first_ones-distinct, found_by_name}

abbrev pub plain_flow : Flow → Option (List ℕ)
plain_flow flows.Event = None
plain_flow (flows.Data used) = None
plain_flow (flows.Adapter type_name) = Some type_name.name

-- the port in plain of this sort and name
abbrev pub plain_port : Sort → List ℕ → JudgedPort → Port
plain_port sort name port = record { sort = sort; side = port.side; name = name; adapter = plain_flow port.flow }

abbrev asks : Sort → List ℕ → Port → Bool
asks sort name port = same_sort port.sort sort && is_same port.name name

-- what is found among declarations of which some are kept
module _ {D Y : Type 0} (sort : Sort) (name : List ℕ) (plain : List ℕ × Y → Port) (part : D → Y) (keep : D → Bool) (own : (q : List ℕ) (y : Y) → asks sort name (plain (q, y)) ≡ is_same q name) where
  abbrev item_of : List ℕ × D → Option Port
  item_of x = cond (keep x.1) (Some (plain (x.0, part x.1))) None

  abbrev those_kept : List (List ℕ × D) → List Port
  those_kept xs = map plain (map (λ x. (x.0, part x.1)) (filter (λ x. keep x.1) xs))

  filtered : (xs : List (List ℕ × D)) → those_kept xs ≡ filter_map item_of xs
  filtered [] = refl
  filtered (x ∷ xs) = grind (arith, filtered xs)

  own_item : (x : List ℕ × D) (p : Port) → item_of x ≡ Some p → asks sort name p ≡ is_same x.0 name
  own_item x p e = grind (arith, own x.0 (part x.1))

  found_in : (xs : List (List ℕ × D)) → Distinct xs → find (asks sort name) (those_kept xs) ≡ option_and_then (λ d. cond (keep d) (Some (plain (name, part d))) None) (stands_for xs name)
  found_in xs distinct =
      let same : map (λ (x : List ℕ × D). (x.0, x.1)) xs ≡ xs = map_itself xs in
      ap (find (asks sort name)) (filtered xs)
      ∙ found_by_name (asks sort name) name (λ (x : List ℕ × D). x.0) (λ x. x.1) item_of (λ d. cond (keep d) (Some (plain (name, part d))) None) (λ x e. ap (λ q. cond (keep x.1) (Some (plain (q, part x.1))) None) e) own_item xs (subst (λ (l : List (List ℕ × D)). Distinct l) (sym same) distinct)
      ∙ ap (λ l. option_and_then (λ d. cond (keep d) (Some (plain (name, part d))) None) (stands_for l name)) same

found_none : {X : Type 0} (sort : Sort) (name : List ℕ) (plain : X → Port) → ((x : X) → same_sort (plain x).sort sort ≡ false) → (xs : List X) → find (asks sort name) (map plain xs) ≡ None
found_none sort name plain other [] = refl
found_none sort name plain other (x ∷ xs) = grind (arith, other x, found_none sort name plain other xs)

six_parts : (test : Port → Bool) (a b c d e f : List Port) → find test (a ++ b ++ c ++ d ++ e ++ f) ≡ option_or (option_or (option_or (option_or (option_or (find test a) (find test b)) (find test c)) (find test d)) (find test e)) (find test f)
six_parts test a b c d e f = simp find-append

module _ (m : Meanings) (name : List ℕ) where
  abbrev event_on : Side → DeclaredEvent → Option Port
  event_on side d = cond (same_side d.side side) (Some (plain_event side (name, d.type_name))) None

  abbrev variable_on : Side → DeclaredVariable → Option Port
  variable_on side d = cond (is_data_on side d.section) (Some (plain_data side (name, d.type_use))) None

  abbrev adapter_on : Role → Side → DeclaredInstance → Option Port
  adapter_on role side d = cond (same_role d.role role) (Some (plain_adapter side (name, d.type_name))) None

  one_event : (o : Option DeclaredEvent) → option_or (option_and_then (event_on Input) o) (option_and_then (event_on Output) o) ≡ option_map (plain_port sorts.Event name) (option_map event_port o)
  one_event o = grind arith

  one_variable : (o : Option DeclaredVariable) → option_or (option_and_then (variable_on Input) o) (option_and_then (variable_on Output) o) ≡ option_map (plain_port sorts.Data name) (option_and_then data_port o)
  one_variable o = grind arith

  one_adapter : (o : Option DeclaredInstance) → option_or (option_and_then (adapter_on roles.Plug Output) o) (option_and_then (adapter_on roles.Socket Input) o) ≡ option_map (plain_port sorts.Adapter name) (option_and_then adapter_port o)
  one_adapter o = grind arith

  pub port_by_name : Distinct m.events → Distinct m.variables → Distinct m.instances → (sort : Sort) → port_named (plain_ports m) sort name ≡ option_map (plain_port sort name) (port_in sort m name)
  port_by_name events variables instances sorts.Event =
      let i = found_in sorts.Event name (plain_event Input) (λ d. d.type_name) (λ d. same_side d.side Input) (λ q y. refl) m.events events in
      let o = found_in sorts.Event name (plain_event Output) (λ d. d.type_name) (λ d. same_side d.side Output) (λ q y. refl) m.events events in
      grind (arith, six_parts, one_event, found_none sorts.Event name (plain_data Input) (λ x. refl), found_none sorts.Event name (plain_data Output) (λ x. refl), found_none sorts.Event name (plain_adapter Input) (λ x. refl), found_none sorts.Event name (plain_adapter Output) (λ x. refl))
  port_by_name events variables instances sorts.Data =
      let i = found_in sorts.Data name (plain_data Input) (λ d. d.type_use) (λ d. is_data_on Input d.section) (λ q y. refl) m.variables variables in
      let o = found_in sorts.Data name (plain_data Output) (λ d. d.type_use) (λ d. is_data_on Output d.section) (λ q y. refl) m.variables variables in
      grind (arith, six_parts, one_variable, found_none sorts.Data name (plain_event Input) (λ x. refl), found_none sorts.Data name (plain_event Output) (λ x. refl), found_none sorts.Data name (plain_adapter Input) (λ x. refl), found_none sorts.Data name (plain_adapter Output) (λ x. refl))
  port_by_name events variables instances sorts.Adapter =
      let o = found_in sorts.Adapter name (plain_adapter Output) (λ d. d.type_name) (λ d. same_role d.role roles.Plug) (λ q y. refl) m.instances instances in
      let i = found_in sorts.Adapter name (plain_adapter Input) (λ d. d.type_name) (λ d. same_role d.role roles.Socket) (λ q y. refl) m.instances instances in
      grind (arith, six_parts, one_adapter, found_none sorts.Adapter name (plain_event Input) (λ x. refl), found_none sorts.Adapter name (plain_event Output) (λ x. refl), found_none sorts.Adapter name (plain_data Input) (λ x. refl), found_none sorts.Adapter name (plain_data Output) (λ x. refl))

no_port : (sort : Sort) (name : List ℕ) → None ≡ option_map (plain_port sort name) (port_in sort (record { events = []; variables = []; instances = [] }) name)
no_port sort name = grind arith

-- of each declaration
pub declared_port : (decl : DeclTree) (sort : Sort) (name : List ℕ) → port_named (network_of decl).ports sort name ≡ option_map (plain_port sort name) (port_in sort (meanings_in decl) name)
declared_port (block_type d) sort name = port_by_name (meanings_in (block_type d)) name (first_ones-distinct (events_in d.interface)) (first_ones-distinct (variables_in d.interface)) (first_ones-distinct (instances_in d.network)) sort
declared_port (adapter_type d) sort name = port_by_name (meanings_in (adapter_type d)) name (first_ones-distinct (events_in d.interface)) (first_ones-distinct (variables_in d.interface)) (first_ones-distinct (instances_in d.network)) sort
declared_port (subapplication_type d) sort name = port_by_name (meanings_in (subapplication_type d)) name (first_ones-distinct (events_in d.interface)) (first_ones-distinct (variables_in d.interface)) (first_ones-distinct (instances_in d.network)) sort
declared_port other sort name = no_port sort name
