-- Units without faults are clean in plain.
use Rattle.std.proofs.Common.{◌≡◌, ℕ, ◌<◌, true, false, ◌&&◌, List, [], ◌∷◌, ◌++◌, map, Option, Some, None, option_map, refl, sym, ap, ◌∙◌, subst, inl, inr, arith}
use Rattle.std.proofs.lemmas.List.Elements.{All-contains, All-head, Contains-append_left, Contains-append_right}
use Rattle.std.specs.{List.{All, Contains, filter_map, find, flat_map, slice_get}, Option.{option_and_then}}
use Rattle.fb_types.specs.Text.declared.name.NameUse.{NameUse}
use Rattle.fb_types.specs.Tree.Tree.{ApplicationTree, DeclTree, InstanceTree, NetworkTree, SystemTree, subapplication_type, system_configuration}
use Rattle.fb_types.specs.Iface.Declarations.{declaration_faults, duplicate_faults, literal_faults_of, mixed_faults, name_faults, with_faults_of}
use Rattle.fb_types.specs.Iface.Ports.{events_in, instances_in, meanings_in_type, variables_in}
use Rattle.fb_types.specs.Iface.Spaces.{chart_spaces, interface_spaces, network_spaces, resource_names, spaces_of}
use Rattle.fb_types.specs.{declared.systems.Application.{Application}, Tree.declared.network.Sort.{Sort}, Library.View.{Sources, tree_at}}
use Rattle.fb_types.specs.{Iface.Recursion.{recursion_faults}, Iface.Names.{first_ones, is_same, stands_for}}
use Rattle.fb_types.specs.{Iface.Types.{instance_faults, instances_of, type_faults}, Iface.Ports.{DeclaredInstance}}
use Rattle.fb_types.specs.{Network.Plain.{PlainNetwork}, Network.declared.network.End.TheVariants.{Own}, Network.declared.network.Port.{Port}}
use Rattle.fb_types.specs.{Applications.{applications_of, plain_application}, Networks.{end_named, network_of, plain_network}, Ports.{plain_ports}}
use Rattle.fb_types.specs.Tree.declared.kinds.UnitKind.TheVariants as kinds
use Rattle.fb_types.proofs.Text.Members.{contains_cases, contains_flat_map, contains_here, contains_later, contains_map, contains_nothing, got_in_map, map_gets, origin_in_map}
use Rattle.fb_faults.specs.{Netcheck.Networks.{application_place, networks_in, type_place}, Netcheck.Clean.{AreRight, IsCleanConnection, IsCleanNetwork}}
use Rattle.fb_faults.specs.{Netcheck.Ends.{adapter_port, port_in, target, target_named}, Netcheck.Settings.{NetworkPlace}}
use Rattle.fb_faults.specs.{Netcheck.Sides.{is_own_port}, Netcheck.declared.ends.Position.TheVariants.{Source, Destination}}
use Rattle.fb_faults.proofs.Netcheck.CleanLemmas.{left_none, networks_clean as faultless_clean, none_of_each, right_none}
use Rattle.fb_faults.proofs.{Netcheck.Locality.{Each, instance_stands}, Netcheck.RightLemmas.{connections_right}}
use Rattle.fb_flatten.specs.{Clean.{ApplicationsAreClean, AreCleanWithKinds, IsCleanWithKinds, NetworksAreClean, application_named}, Nothing.{HasNoReport}}
use Rattle.fb_flatten.proofs.{InnerInstances.{IsInnerInstance, inner_instances, is_inner}}
use Rattle.fb_flatten.proofs.{NameLemmas.{AreApart, Distinct, apart, distinct, first_ones-distinct, found_by_name, mapped, stands_for_itself}, NetworkLemmas.{meaning, sound}, NothingLemmas.{nothing_reported}}
use Rattle.fb_flatten.proofs.PortLemmas.{plain_port, port_by_name}

-- ports alone
leaf_sound : (sources : Sources) (ports : List Port) → IsCleanWithKinds sources (record { ports = ports; instances = []; connections = [] })
leaf_sound sources ports = grind arith

abbrev Right : NetworkPlace × NetworkTree → Type 0
Right placed = All (AreRight placed.0) placed.1.connections

abbrev Fine : Sources → NetworkPlace × NetworkTree → Type 0
Fine sources placed = IsCleanNetwork sources placed.0 placed.1

second_none : {A : Type 0} (a b c d e : List A) → (((a ++ b) ++ c) ++ d) ++ e ≡ [] → b ≡ []
second_none a b c d e h = right_none a b (left_none (a ++ b) c (left_none (a ++ b ++ c) d (left_none (a ++ b ++ c ++ d) e h)))

-- the type of each instance has no fault
types_fine : (sources : Sources) (unit : List ℕ) (decl : DeclTree) → declaration_faults sources unit (Some decl) ≡ [] → (i : InstanceTree) → Contains (instances_of decl) i → instance_faults sources i ≡ []
types_fine sources unit decl e i c =
    let types = second_none (name_faults unit decl ++ duplicate_faults decl ++ mixed_faults decl) (type_faults sources decl) (with_faults_of decl) (literal_faults_of decl) (recursion_faults sources unit decl) e in
    All-contains (λ (x : InstanceTree). instance_faults sources x ≡ []) (instances_of decl) i (none_of_each (instance_faults sources) (instances_of decl) types) c

module _ (sources : Sources) (unit : List ℕ) (decl : DeclTree) (is : tree_at sources unit ≡ Some decl) (report : HasNoReport sources unit) where
  all_right : All Right (networks_in sources unit (Some decl))
  all_right = subst (λ (t : Option DeclTree). All Right (networks_in sources unit t)) is (connections_right sources unit report.declarations report.networks)

  all_fine : All (Fine sources) (networks_in sources unit (Some decl))
  all_fine = subst (λ (t : Option DeclTree). All (Fine sources) (networks_in sources unit t)) is (faultless_clean sources unit report.networks)

  all_types : (i : InstanceTree) → Contains (instances_of decl) i → instance_faults sources i ≡ []
  all_types = types_fine sources unit decl (ap (declaration_faults sources unit) (sym is) ∙ report.declarations)

  all_apart : (n : NetworkTree) → Contains (spaces_of decl) (map (λ i. i.name) n.instances) → Distinct (instances_in n)
  all_apart n among = distinct (λ (i : InstanceTree). i.name) meaning n.instances (apart sources unit decl (map (λ i. i.name) n.instances) report.declarations is among)

declared_sound : (sources : Sources) (unit : List ℕ) (decl : DeclTree) → tree_at sources unit ≡ Some decl → HasNoReport sources unit → IsCleanWithKinds sources (network_of decl)
declared_sound sources unit (subapplication_type d) is report =
    let decl = subapplication_type d in
    let placed = type_place sources unit kinds.Subapplication d in
    let fine : Fine sources placed = All-head (Fine sources) placed [] (all_fine sources unit decl is report) in
    let names = map (λ (i : InstanceTree). i.name) d.network.instances in
    let among : Contains (spaces_of decl) names = Contains-append_right (interface_spaces d.interface ++ chart_spaces d.chart) (network_spaces d.network) names (contains_here names _) in
    sound sources placed.0 d.network (plain_ports (meanings_in_type d))
    (all_apart sources unit decl is report d.network among)
    refl refl (grind arith) (grind arith)
    (λ sort name. port_by_name (meanings_in_type d) name (first_ones-distinct (events_in d.interface)) (first_ones-distinct (variables_in d.interface)) (first_ones-distinct (instances_in d.network)) sort)
    (All-head Right placed [] (all_right sources unit decl is report))
    fine
    (all_types sources unit decl is report)
    (λ c x among own. (All-contains (IsCleanConnection sources placed.0) d.network.connections c fine.connections among).passes_nothing)
declared_sound sources unit other is report = leaf_sound sources (network_of other).ports

pub networks_clean : NetworksAreClean
networks_clean sources unit network is none =
    let m = mapped network_of (tree_at sources unit) network is in
    subst (λ (n : PlainNetwork). IsCleanWithKinds sources n) m.2 (declared_sound sources unit m.0 m.1 (nothing_reported sources unit none))

-- an application has no ports

no_adapter_of : (o : Option DeclaredInstance) → ((i : DeclaredInstance) → o ≡ Some i → is_inner i.role ≡ true) → option_and_then adapter_port o ≡ None
no_adapter_of None inner = refl
no_adapter_of (Some i) inner = grind (arith, inner i refl)

no_adapter : (n : NetworkTree) → Each IsInnerInstance n.instances → (name : List ℕ) → option_and_then adapter_port (stands_for (first_ones (instances_in n)) name) ≡ None
no_adapter n inner name = no_adapter_of (stands_for (first_ones (instances_in n)) name) (instance_stands (λ (d : DeclaredInstance). is_inner d.role ≡ true) n inner name)

module _ (sources : Sources) (unit : List ℕ) (a : ApplicationTree) (inner : Each IsInnerInstance a.network.instances) where
  abbrev here : NetworkPlace
  here = (application_place sources unit a).0

  no_own_port : (sort : Sort) (name : List ℕ) → port_in sort here.scope.own name ≡ None
  no_own_port sort name = grind (arith, no_adapter a.network inner name)

  no_own_end : (sort : Sort) (name : NameUse) (port : Option NameUse) (x : List ℕ) → end_named name port ≡ Own x → is_own_port Source (target_named here sort name.name port) ≡ false
  no_own_end sort name port x e = grind (arith, no_own_port sort name.name)

each_contains : {A : Type 0} (P : A → Type 0) (xs : List A) → Each P xs → (x : A) → Contains xs x → P x
each_contains P [] h x c = absurd (contains_nothing x c)
each_contains P (y ∷ ys) h x c = elim (contains_cases y ys x c) [ inl e ↦ subst P e h.0 | inr d ↦ each_contains P ys h.1 x d ]

module _ (sources : Sources) (unit : List ℕ) (s : SystemTree) (is : tree_at sources unit ≡ Some (system_configuration s)) (report : HasNoReport sources unit) where
  abbrev prefix : List (List NameUse)
  prefix = map (λ (x : ApplicationTree). x.name) s.applications ∷ flat_map (λ (x : ApplicationTree). network_spaces x.network) s.applications

  abbrev behind : List (List NameUse)
  behind = map (λ d. d.name) s.devices ∷ map resource_names s.devices

  application_sound : (a : ApplicationTree) → Contains s.applications a → IsCleanWithKinds sources (plain_network [] a.network)
  application_sound a c =
      let decl = system_configuration s in
      let placed = application_place sources unit a in
      let inner = each_contains (λ (x : ApplicationTree). Each IsInnerInstance x.network.instances) s.applications (inner_instances sources unit s is) a c in
      let among_places = contains_map (application_place sources unit) s.applications a c in
      let fine : Fine sources placed = All-contains (Fine sources) (networks_in sources unit (Some decl)) placed (all_fine sources unit decl is report) among_places in
      let right : Right placed = All-contains Right (networks_in sources unit (Some decl)) placed (all_right sources unit decl is report) among_places in
      let names = map (λ (i : InstanceTree). i.name) a.network.instances in
      let inside : Contains (flat_map (λ (x : ApplicationTree). network_spaces x.network) s.applications) names = contains_flat_map (λ (x : ApplicationTree). network_spaces x.network) s.applications a names c (contains_here names _) in
      let among : Contains (spaces_of decl) names = Contains-append_left prefix behind names (contains_later (map (λ (x : ApplicationTree). x.name) s.applications) (flat_map (λ (x : ApplicationTree). network_spaces x.network) s.applications) names inside) in
      sound sources placed.0 a.network []
      (all_apart sources unit decl is report a.network among)
      refl refl (grind arith) (grind arith)
      (λ sort name. sym (ap (option_map (plain_port sort name)) (no_own_port sources unit a inner sort name)))
      right
      fine
      (λ i within. all_types sources unit decl is report i (contains_flat_map (λ (x : ApplicationTree). x.network.instances) s.applications a i c within))
      (λ k x within own. ap (λ b. b && is_own_port Destination (target placed.0 k.sort k.destination)) (no_own_end sources unit a inner k.sort k.source.name k.source.port x own))

  -- the name of an application stands for it

  each_made : (xs : List ApplicationTree) → filter_map (λ x. Some (plain_application x)) xs ≡ map plain_application xs
  each_made [] = refl
  each_made (x ∷ xs) = ap (λ l. plain_application x ∷ l) (each_made xs)

  names_apart : AreApart (map (λ (x : ApplicationTree). x.name) s.applications)
  names_apart =
      let names = map (λ (x : ApplicationTree). x.name) s.applications in
      apart sources unit (system_configuration s) names report.declarations is (Contains-append_left prefix behind names (contains_here names (flat_map (λ (x : ApplicationTree). network_spaces x.network) s.applications)))

  applications_apart : Distinct (map (λ (a : ApplicationTree). (a.name.name, a.network)) s.applications)
  applications_apart = distinct (λ (x : ApplicationTree). x.name) (λ x. x.network) s.applications names_apart

  places_apart : (i j : ℕ) (a b : Application) → i < j → slice_get (map plain_application s.applications) i ≡ Some a → slice_get (map plain_application s.applications) j ≡ Some b → a.name ≡ b.name → ⊥
  places_apart i j a b before first again same =
      let p = got_in_map plain_application s.applications i a first in
      let q = got_in_map plain_application s.applications j b again in
      let named = λ (x : ApplicationTree). x.name in
      names_apart i j p.0.name q.0.name before (map_gets named s.applications i p.0 p.1) (map_gets named s.applications j q.0 q.1) (ap (λ (x : Application). x.name) p.2 ∙ same ∙ sym (ap (λ (x : Application). x.name) q.2))

  application_found : (a : ApplicationTree) → Contains s.applications a → application_named (map plain_application s.applications) a.name.name ≡ Some (plain_application a)
  application_found a c =
      let name = a.name.name in
      let made : NetworkTree → Option Application = λ n. Some (record { name = name; network = plain_network [] n }) in
      ap (find (λ (x : Application). is_same x.name name)) (sym (each_made s.applications))
      ∙ found_by_name (λ (x : Application). is_same x.name name) name (λ (x : ApplicationTree). x.name.name) (λ x. x.network) (λ x. Some (plain_application x)) made
      (λ x e. ap (λ q. Some (record { name = q; network = plain_network [] x.network })) e)
      (λ x p e. let same : plain_application x ≡ p = cc in ap (λ (q : Application). is_same q.name name) (sym same))
      s.applications applications_apart
      ∙ ap (option_and_then made) (stands_for_itself (λ (x : ApplicationTree). x.name) (λ x. x.network) s.applications applications_apart a c)

  system_sound : AreCleanWithKinds sources (map plain_application s.applications)
  system_sound = record {
    apart = places_apart;
    named = λ a c. let o = origin_in_map plain_application s.applications a c in rw (← o.gives) (application_found o.origin o.among);
    sound = λ a c. let o = origin_in_map plain_application s.applications a c in rw (← o.gives) (application_sound o.origin o.among);
  }

applications_sound : (sources : Sources) (unit : List ℕ) (decl : DeclTree) → tree_at sources unit ≡ Some decl → HasNoReport sources unit → AreCleanWithKinds sources (applications_of decl)
applications_sound sources unit (system_configuration s) is report = system_sound sources unit s is report
applications_sound sources unit other is report = grind arith

pub applications_clean : ApplicationsAreClean
applications_clean sources unit applications is none =
    let m = mapped applications_of (tree_at sources unit) applications is in
    subst (λ (l : List Application). AreCleanWithKinds sources l) m.2 (applications_sound sources unit m.0 m.1 (nothing_reported sources unit none))
