-- The faults of networks depend on the texts of the unit and of its parts alone.
use Rattle.std.proofs.Common.{◌≡◌, ℕ, Bool, true, false, cond, List, [], ◌∷◌, ◌++◌, Option, Some, None, filter, map, nat_eq, refl, sym, ap, ◌∙◌, ◌+◌, subst, unwrap_or, arith}
use Rattle.std.proofs.lemmas.List.Elements.{Contains-append_left, Contains-append_right}
use Rattle.std.specs.{Cmp.Lexicographic.{pointwise}, FinMap.{get}, List.{Contains, enumerate_from, flat_map}, Option.{option_and_then, option_map_or}}
use Rattle.fb_tree.specs.{Text.declared.name.NameUse.{NameUse}, Mentions.{instance_types, types_in}}
use Rattle.fb_tree.specs.Tree.{ApplicationTree, DeclTree, InstanceTree, NetworkTree, TypeTree, block_type, adapter_type, subapplication_type, system_configuration, structure_type}
use Rattle.fb_tree.specs.{declared.kinds.UnitKind.{UnitKind}, declared.kinds.UnitKind.TheVariants.{Block, Subapplication, System}}
use Rattle.fb_tree.specs.{declared.network.Connection.{Connection}, declared.network.End.{End}}
use Rattle.fb_iface.specs.{Library.View.{Sources, parts_in, tree_at, tree_of}, Names.{first_ones, is_same, stands_for}, Ports.{instances_in}}
use Rattle.fb_iface.specs.{Scope.{Scope, scope_of_network, scope_of_type}, Ports.{DeclaredInstance}, Library.Parts.{part}}
use Rattle.fb_iface.proofs.{Library.Locality.{near_part, near_unit}, ScopeLocal.{in_order_has, network_scope_local, scope_local}}
use Rattle.fb_netcheck.specs.{Connections.{connection_faults}, Ends.{target}, Local.{NetFaultsAreLocal}}
use Rattle.fb_netcheck.specs.{Networks.{application_network, declared_faults, network_faults, tree_faults, type_network}, Parameters.{all_parameters}}
use Rattle.fb_netcheck.specs.{Repeats.{second_adapters, second_sources}, Settings.{NetworkPlace}, Spellings.{same_by_form, words}}
use Rattle.fb_netcheck.specs.Types.{flow_faults, home, home_of, joined_types}

-- each item of a list has the fact
abbrev pub Each : {A : Type 0} → (A → Type 0) → List A → Type 0
Each P [] = Unit {0}
Each P (x ∷ xs) = P x × Each P xs

each_filter : {A : Type 0} (P : A → Type 0) (test : A → Bool) (xs : List A) → Each P xs → Each P (filter test xs)
each_filter P test [] h = tt
each_filter P test (x ∷ xs) h = by (test x) (each_filter P test xs h.1)
  where
    by : (b : Bool) → Each P (filter test xs) → Each P (cond b (x ∷ filter test xs) (filter test xs))
    by true others = (h.0, others)
    by false others = others

each_map : {A B : Type 0} (P : B → Type 0) (f : A → B) (xs : List A) → Each (λ x. P (f x)) xs → Each P (map f xs)
each_map P f [] h = tt
each_map P f (x ∷ xs) h = (h.0, each_map P f xs h.1)

each_placed : {A : Type 0} (P : A → Type 0) (n : ℕ) (xs : List A) → Each P xs → Each (λ (placed : ℕ × A). P placed.1) (enumerate_from n xs)
each_placed P n [] h = tt
each_placed P n (x ∷ xs) h = (h.0, each_placed P (n + 1) xs h.1)

-- what holds of each declaration holds of what a name stands for
each_stands : {D : Type 0} (P : D → Type 0) (declarations : List (List ℕ × D)) → Each (λ (e : List ℕ × D). P e.1) declarations → (name : List ℕ) (d : D) → stands_for declarations name ≡ Some d → P d
each_stands P [] h name d e = absurd (let no : ⊥ = cc in no)
each_stands P (x ∷ xs) h name d e = by (is_same x.0 name) e (each_stands P xs h.1 name d)
  where
    by : (b : Bool) → cond b (Some x.1) (stands_for xs name) ≡ Some d → (stands_for xs name ≡ Some d → P d) → P d
    by true e others = let same : x.1 ≡ d = cc in subst P same h.0
    by false e others = others e

-- the type of each instance is a part
each_type : (types : List (List ℕ)) (instances : List InstanceTree) → ((name : List ℕ) → Contains (types_in instances) name → Contains types name) → Each (λ (i : InstanceTree). Contains types i.type_name.name) instances
each_type types [] among = tt
each_type types (x ∷ xs) among = (among x.type_name.name (0, omega arith, refl), each_type types xs (λ name h. among name (Contains-append_right (x.type_name.name ∷ []) (types_in xs) name h)))

-- what holds of each instance holds of what a name stands for
pub instance_stands : (P : DeclaredInstance → Type 0) (n : NetworkTree) → Each (λ (i : InstanceTree). P (record { role = i.role; type_name = i.type_name })) n.instances → (name : List ℕ) (i : DeclaredInstance) → stands_for (first_ones (instances_in n)) name ≡ Some i → P i
instance_stands P n each name i e =
    let Q : List ℕ × DeclaredInstance → Type 0 = λ d. P d.1 in
    let declared : Each Q (instances_in n) = each_map Q _ n.instances each in
    each_stands P (first_ones (instances_in n)) (each_map Q _ _ (each_filter _ _ _ (each_placed Q 0 (instances_in n) declared))) name i e

-- the type of what a name stands for among the instances is a part
type_mentioned : (n : NetworkTree) (name : List ℕ) (i : DeclaredInstance) → stands_for (first_ones (instances_in n)) name ≡ Some i → Contains (types_in n.instances) i.type_name.name
type_mentioned n name i e =
    let P : DeclaredInstance → Type 0 = λ d. Contains (types_in n.instances) d.type_name.name in
    instance_stands P n (each_type (types_in n.instances) n.instances (λ name h. h)) name i e

module _ (a b : Sources) (unit : List ℕ) (own : get a unit ≡ get b unit) where
  -- a port is declared in the unit or in a part
  home_local : (kind : UnitKind) (scope : Scope) (n : NetworkTree) → scope.own.instances ≡ first_ones (instances_in n) → ((name : List ℕ) → Contains (types_in n.instances) name → get a name ≡ get b name) → (name : NameUse) (port : Option NameUse) → get a (home_of (record { unit = unit; kind = kind; scope = scope }) name port) ≡ get b (home_of (record { unit = unit; kind = kind; scope = scope }) name port)
  home_local kind scope n declared agree name None = own
  home_local kind scope n declared agree name (Some port) = by (stands_for scope.own.instances name.name) (λ i e. type_mentioned n name.name i (ap (λ l. stands_for l name.name) (sym declared) ∙ e))
    where
      by : (o : Option DeclaredInstance) → ((i : DeclaredInstance) → o ≡ Some i → Contains (types_in n.instances) i.type_name.name) → get a (option_map_or (λ i. i.type_name.name) o unit) ≡ get b (option_map_or (λ i. i.type_name.name) o unit)
      by None there = own
      by (Some i) there = agree i.type_name.name (there i refl)

  network_local : (kind : UnitKind) (scope : Scope) (n : NetworkTree) → scope.own.instances ≡ first_ones (instances_in n) → ((name : List ℕ) → Contains (types_in n.instances) name → get a name ≡ get b name) → network_faults a (record { unit = unit; kind = kind; scope = scope }) n ≡ network_faults b (record { unit = unit; kind = kind; scope = scope }) n
  network_local kind scope n declared agree =
      let here : NetworkPlace = record { unit = unit; kind = kind; scope = scope } in
      let text : (end : End) → get a (home here end) ≡ get b (home here end) = λ end. home_local kind scope n declared agree end.name end.port in
      let types : (c : Connection) → joined_types a here c ≡ joined_types b here c = λ c. (λ i. flow_faults (λ x y. same_by_form x.form y.form (is_same x.name.name y.name.name) (pointwise nat_eq (words (part (unwrap_or (text c.source i) []) x.span)) (words (part (unwrap_or (text c.destination i) []) y.span)))) c (target here c.sort c.source) (target here c.sort c.destination)) in
      λ i. flat_map (connection_faults here) n.connections ++ flat_map (λ c. types c i) n.connections ++ second_sources n.connections ++ second_adapters n.connections ++ all_parameters scope n.instances

  type_local : (kind : UnitKind) (d : TypeTree) → ((name : List ℕ) → Contains (types_in d.network.instances) name → get a name ≡ get b name) → type_network a unit kind d ≡ type_network b unit kind d
  type_local kind d agree =
      network_local kind (scope_of_type a d) d.network refl agree
      ∙ ap (λ s. network_faults b (record { unit = unit; kind = kind; scope = s }) d.network) (scope_local a b d agree)

  application_local : (x : ApplicationTree) → ((name : List ℕ) → Contains (types_in x.network.instances) name → get a name ≡ get b name) → application_network a unit x ≡ application_network b unit x
  application_local x agree =
      network_local System (scope_of_network a x.network) x.network refl agree
      ∙ ap (λ s. network_faults b (record { unit = unit; kind = System; scope = s }) x.network) (network_scope_local a b x.network agree)

  applications_local : (applications : List ApplicationTree) → ((name : List ℕ) → Contains (flat_map (λ x. types_in x.network.instances) applications) name → get a name ≡ get b name) → flat_map (application_network a unit) applications ≡ flat_map (application_network b unit) applications
  applications_local [] agree = refl
  applications_local (x ∷ xs) agree =
      let others = flat_map (λ (y : ApplicationTree). types_in y.network.instances) xs in
      let first = application_local x (λ name h. agree name (Contains-append_left (types_in x.network.instances) others name h)) in
      let rest = applications_local xs (λ name h. agree name (Contains-append_right (types_in x.network.instances) others name h)) in
      λ i. first i ++ rest i

  declared_local : (decl : DeclTree) → ((name : List ℕ) → Contains (instance_types decl) name → get a name ≡ get b name) → declared_faults a unit decl ≡ declared_faults b unit decl
  declared_local (block_type d) agree = type_local Block d agree
  declared_local (adapter_type d) agree = refl
  declared_local (subapplication_type d) agree = type_local Subapplication d agree
  declared_local (system_configuration s) agree = applications_local s.applications agree
  declared_local (structure_type s) agree = refl

  tree_local : (tree : Option DeclTree) → ((name : List ℕ) → Contains (parts_in tree) name → get a name ≡ get b name) → tree_faults a unit tree ≡ tree_faults b unit tree
  tree_local None agree = refl
  tree_local (Some decl) agree = declared_local decl (λ name h. agree name (in_order_has (instance_types decl) name h))

pub net_faults_local : NetFaultsAreLocal
net_faults_local a b unit agree =
    let own = agree unit (near_unit a unit) in
    tree_local a b unit own (tree_at a unit) (λ name h. agree name (near_part a unit name h)) ∙ ap (λ o. tree_faults b unit (option_and_then tree_of o)) own
