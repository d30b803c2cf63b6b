-- Where types are usable and networks have no faults, each end is a port of the right side.
use Rattle.std.proofs.Common.{◌≡◌, ℕ, Bool, true, false, cond, ◌||◌, List, [], ◌∷◌, ◌++◌, Option, Some, None, get_or, is_some, map, refl, sym, ap, ◌∙◌}
use Rattle.std.proofs.{lemmas.Bool.{or_right}, lemmas.Grind.{flat_map-append}, lemmas.List.Elements.{All-cons, All-map, All-nil}}
use Rattle.std.specs.{Cmp.Lexicographic.{nat_list_eq_equiv}, List.{All, flat_map}, Option.{option_and_then}}
use Rattle.fb_tree.proofs.Text.OrderLemmas.{same_name}
use Rattle.fb_tree.specs.{Text.declared.name.NameUse.{NameUse}, Mentions.{unit_kind_of}}
use Rattle.fb_tree.specs.Tree.{ApplicationTree, DeclTree, InstanceTree, NetworkTree, block_type, adapter_type, subapplication_type, system_configuration, structure_type}
use Rattle.fb_tree.specs.{declared.kinds.UnitKind.{UnitKind}, declared.kinds.UnitKind.TheVariants.{Block, Subapplication}, declared.network.Role.{Role}}
use Rattle.fb_tree.specs.declared.network.Sort.{Sort}
use Rattle.fb_iface.specs.Library.View.{Sources, tree_at}
use Rattle.fb_iface.specs.Declarations.{declaration_faults, duplicate_faults, literal_faults_of, mixed_faults, name_faults, with_faults_of}
use Rattle.fb_iface.specs.{Recursion.{recursion_faults}, Names.{first_ones, has_name, is_same, stands_for}, Ports.{Meanings, instances_in, meanings_in}}
use Rattle.fb_iface.specs.{Scope.{instance_ports, mentioned_type, ports_of, type_ports_of, usable}, Types.{instance_faults, suits, type_fault, type_faults}}
use Rattle.fb_iface.specs.{declared.fault.Fault.{Fault}, Ports.{DeclaredInstance}}
use Rattle.fb_netcheck.specs.{declared.ends.Holder.{Holder}, declared.ends.Holder.TheVariants.{Own}, declared.ends.Port.{Port}}
use Rattle.fb_netcheck.specs.{declared.ends.Position.{Position}, declared.ends.Position.TheVariants.{Source, Destination}, declared.ends.Target.{Target}}
use Rattle.fb_netcheck.specs.{declared.ends.Target.TheVariants.{Unknown, NotChecked, Found}, Clean.{AreRight, ConnectionsAreRight, IsCleanEnd}}
use Rattle.fb_netcheck.specs.Ends.{holder_of, is_right, port_in, target_held, target_named, target_of, target_of_instance}
use Rattle.fb_netcheck.specs.{Networks.{application_network, application_place, network_faults, networks_in, tree_faults, type_place}, Settings.{NetworkPlace}}
use Rattle.fb_netcheck.proofs.{CleanLemmas.{clean_network, left_none, none_of_each, right_none}, Locality.{Each, instance_stands}}

usable_some : (role : Role) (name : NameUse) (tree : Option DeclTree) → type_fault role name tree ≡ [] → is_some (usable role tree) ≡ true
usable_some role name None e = absurd (let no : ⊥ = cc in no)
usable_some role name (Some decl) e = by (suits role (unit_kind_of decl)) _ e
  where
    by : (b : Bool) (fault : Fault) → cond b [] (fault ∷ []) ≡ [] → is_some (cond b (Some (meanings_in decl)) None) ≡ true
    by true fault e = refl
    by false fault e = absurd (let no : ⊥ = cc in no)

-- the type of each instance is usable
each_usable : (sources : Sources) (all instances : List InstanceTree) → ((q : List ℕ) → has_name (map (λ i. i.type_name) instances) q ≡ true → has_name (map (λ i. i.type_name) all) q ≡ true) → flat_map (instance_faults sources) instances ≡ [] → Each (λ (i : InstanceTree). is_some (usable i.role (mentioned_type sources all i.type_name.name)) ≡ true) instances
each_usable sources all [] among none = tt
each_usable sources all (x ∷ xs) among none =
    let others = map (λ (i : InstanceTree). i.type_name) xs in
    let name = x.type_name.name in
    let own : has_name (x.type_name ∷ others) name ≡ true = ap (λ b. b || has_name others name) (sym (same_name name name) ∙ nat_list_eq_equiv.refl name) in
    let first = instance_faults sources x in
    let rest = flat_map (instance_faults sources) xs in (
      ap (λ b. is_some (usable x.role (cond b (tree_at sources name) None))) (among name own) ∙ usable_some x.role x.type_name (tree_at sources name) (left_none first rest none),
      each_usable sources all xs (λ q h. among q (or_right (is_same name q) (has_name others q) h)) (right_none first rest none),
    )

clean_is_right : (position : Position) (t : Target) → IsCleanEnd position t → (t ≡ NotChecked → ⊥) → is_right position t ≡ true
clean_is_right position Unknown fine judged = absurd fine
clean_is_right position NotChecked fine judged = absurd (judged refl)
clean_is_right position (Found holder port) fine judged = fine

port_is_judged : (holder : Holder) (port : Option Port) → target_of holder port ≡ NotChecked → ⊥
port_is_judged holder None e = let no : ⊥ = cc in no
port_is_judged holder (Some port) e = let no : ⊥ = cc in no

is_judged : (kind : UnitKind) (sort : Sort) (o : Option DeclaredInstance) (m : Option Meanings) (name : List ℕ) → ((i : DeclaredInstance) → o ≡ Some i → is_some m ≡ true) → target_of_instance kind sort o m name ≡ NotChecked → ⊥
is_judged kind sort None m name there e = let no : ⊥ = cc in no
is_judged kind sort (Some i) m name there e = by (holder_of kind sort i.role) m (there i refl) e
  where
    by : (h : Option Holder) (m : Option Meanings) → is_some m ≡ true → target_held h sort m name ≡ NotChecked → ⊥
    by None m there e = let no : ⊥ = cc in no
    by (Some holder) None there e = let no : ⊥ = cc in no
    by (Some holder) (Some m) there e = port_is_judged holder (port_in sort m name) e

module _ (sources : Sources) (here : NetworkPlace) (n : NetworkTree) (own : here.scope.own.instances ≡ first_ones (instances_in n)) (types : here.scope.type_ports ≡ type_ports_of sources n) (none : flat_map (instance_faults sources) n.instances ≡ []) where
  ports_there : (name : List ℕ) (i : DeclaredInstance) → stands_for here.scope.own.instances name ≡ Some i → is_some (ports_of here.scope name) ≡ true
  ports_there name i e =
      let P : DeclaredInstance → Type 0 = λ d. is_some (usable d.role (mentioned_type sources n.instances d.type_name.name)) ≡ true in
      ap (λ o. is_some (option_and_then (instance_ports here.scope) o)) e
      ∙ (λ k. is_some (types k i.role i.type_name.name))
      ∙ instance_stands P n (each_usable sources n.instances n.instances (λ q h. h) none) name i (ap (λ l. stands_for l name) (sym own) ∙ e)

  end_is_judged : (sort : Sort) (name : List ℕ) (port : Option NameUse) → target_named here sort name port ≡ NotChecked → ⊥
  end_is_judged sort name None e = port_is_judged Own (port_in sort here.scope.own name) e
  end_is_judged sort name (Some port) e = is_judged here.kind sort (stands_for here.scope.own.instances name) (ports_of here.scope name) port.name (ports_there name) e

  all_right : network_faults sources here n ≡ [] → All (AreRight here) n.connections
  all_right clean =
      let fine = clean_network sources here n clean in
      λ k c within.
      let here_fine = fine.connections k c within in
      (clean_is_right Source _ here_fine.source_side (end_is_judged _ _ _), clean_is_right Destination _ here_fine.destination_side (end_is_judged _ _ _))

-- the types of the instances of each application
none_joined : {A B C : Type 0} (f : B → List C) (g : A → List B) (xs : List A) → flat_map f (flat_map g xs) ≡ [] → All (λ x. flat_map f (g x) ≡ []) xs
none_joined f g [] e = All-nil (λ x. flat_map f (g x) ≡ [])
none_joined f g (x ∷ xs) e =
    let all = sym (flat_map-append f (g x) (flat_map g xs)) ∙ e in
    All-cons (λ x. flat_map f (g x) ≡ []) x xs (left_none (flat_map f (g x)) (flat_map f (flat_map g xs)) all) (none_joined f g xs (right_none (flat_map f (g x)) (flat_map f (flat_map g xs)) all))

abbrev Right : NetworkPlace × NetworkTree → Type 0
Right placed = All (AreRight placed.0) placed.1.connections

right_networks : (sources : Sources) (unit : List ℕ) (decl : DeclTree) → type_faults sources decl ≡ [] → tree_faults sources unit (Some decl) ≡ [] → All Right (networks_in sources unit (Some decl))
right_networks sources unit (block_type d) types none = All-cons Right _ [] (all_right sources (type_place sources unit Block d).0 d.network refl refl types none) (All-nil Right)
right_networks sources unit (adapter_type d) types none = All-nil Right
right_networks sources unit (subapplication_type d) types none = All-cons Right _ [] (all_right sources (type_place sources unit Subapplication d).0 d.network refl refl types none) (All-nil Right)
right_networks sources unit (system_configuration s) types none =
    All-map Right (application_place sources unit) s.applications (λ k a within. let x = get_or s.applications k a in all_right sources (application_place sources unit x).0 x.network refl refl (none_joined (instance_faults sources) (λ (a : ApplicationTree). a.network.instances) s.applications types k a within) (none_of_each (application_network sources unit) s.applications none k a within))
right_networks sources unit (structure_type s) types none = All-nil Right

types_none : (sources : Sources) (unit : List ℕ) (decl : DeclTree) → declaration_faults sources unit (Some decl) ≡ [] → type_faults sources decl ≡ []
types_none sources unit decl e =
    let prefix = (name_faults unit decl ++ duplicate_faults decl) ++ mixed_faults decl in
    let types = prefix ++ type_faults sources decl in
    let withs = types ++ with_faults_of decl in
    right_none prefix (type_faults sources decl) (left_none types (with_faults_of decl) (left_none withs (literal_faults_of decl) (left_none (withs ++ literal_faults_of decl) (recursion_faults sources unit decl) e)))

pub connections_right : ConnectionsAreRight
connections_right sources unit declared none = by (tree_at sources unit) declared none
  where
    by : (tree : Option DeclTree) → declaration_faults sources unit tree ≡ [] → tree_faults sources unit tree ≡ [] → All Right (networks_in sources unit tree)
    by None declared none = All-nil Right
    by (Some decl) declared none = right_networks sources unit decl (types_none sources unit decl declared) none
