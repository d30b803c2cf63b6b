-- The faults of a unit depend on the texts of what is near it alone.
use Rattle.std.proofs.{Common.{◌≡◌, ℕ, List, [], ◌∷◌, ◌++◌, Option, Some, None, refl, ap, ◌∙◌, subst, arith}, lemmas.List.{map-append}}
use Rattle.std.proofs.lemmas.List.Elements.{Contains-append_right}
use Rattle.std.specs.{FinMap.{get}, List.{Contains, flat_map}, Option.{option_and_then}}
use Rattle.fb_tree.specs.Mentions.{instance_types, types_in}
use Rattle.fb_tree.specs.Tree.{ApplicationTree, DeclTree, InstanceTree, block_type, adapter_type, subapplication_type, system_configuration, structure_type}
use Rattle.fb_netcheck.specs.{Library.Near.{near_of}, Library.View.{Sources, parts_in, tree_at, tree_of}}
use Rattle.fb_netcheck.specs.Iface.Declarations.{iface_faults_of, declaration_faults, duplicate_faults, literal_faults_of, mixed_faults, name_faults, with_faults_of}
use Rattle.fb_netcheck.specs.{Iface.Fault.{faults_in_order}, Iface.Recursion.{recursion_faults}}
use Rattle.fb_netcheck.specs.{Iface.Types.{instance_faults, instances_of, type_fault, type_faults}, Library.Local.{Agree}}
use Rattle.fb_netcheck.proofs.{Library.Locality.{near_part, near_unit}, Iface.FieldsLocal.{recursion_local}, Iface.ScopeLocal.{in_order_has}}
use Rattle.fb_netcheck.proofs.Locality.{net_faults_local}
use Rattle.fb_expr.proofs.Locality.{expr_faults_local}
use Rattle.fb_ecc.proofs.Locality.{ecc_local}
use Rattle.fb_faults.specs.{Mappings.{declared_mapping_faults}, Faults.{FaultsAreLocal, text_faults}}

first_contained : {A : Type 0} (x : A) (xs : List A) → Contains (x ∷ xs) x
first_contained x xs = (0, omega arith, refl)

types_in-applications : (applications : List ApplicationTree) → types_in (flat_map (λ a. a.network.instances) applications) ≡ flat_map (λ a. types_in a.network.instances) applications
types_in-applications [] = refl
types_in-applications (a ∷ others) =
    map-append (λ (i : InstanceTree). i.type_name.name) a.network.instances (flat_map (λ a. a.network.instances) others)
    ∙ ap (λ l. types_in a.network.instances ++ l) (types_in-applications others)

-- the parts are the types of the instances
types_mentioned : (decl : DeclTree) → types_in (instances_of decl) ≡ instance_types decl
types_mentioned (block_type d) = refl
types_mentioned (adapter_type d) = refl
types_mentioned (subapplication_type d) = refl
types_mentioned (system_configuration s) = types_in-applications s.applications
types_mentioned (structure_type s) = refl

module _ (a b : Sources) where
  types_local : (instances : List InstanceTree) → ((name : List ℕ) → Contains (types_in instances) name → get a name ≡ get b name) → flat_map (instance_faults a) instances ≡ flat_map (instance_faults b) instances
  types_local [] agree = refl
  types_local (x ∷ xs) agree =
      let own = agree x.type_name.name (first_contained x.type_name.name (types_in xs)) in
      let others = types_local xs (λ name h. agree name (Contains-append_right (x.type_name.name ∷ []) (types_in xs) name h)) in
      λ i. type_fault x.role x.type_name (option_and_then tree_of (own i)) ++ others i

  declared_local : (unit : List ℕ) (tree : Option DeclTree) → ((name : List ℕ) → Contains (parts_in tree) name → get a name ≡ get b name) → ((decl : DeclTree) → recursion_faults a unit decl ≡ recursion_faults b unit decl) → declaration_faults a unit tree ≡ declaration_faults b unit tree
  declared_local unit None agree recursion = refl
  declared_local unit (Some decl) agree recursion =
      let types : type_faults a decl ≡ type_faults b decl = types_local (instances_of decl) (λ name h. agree name (in_order_has (instance_types decl) name (subst (λ l. Contains l name) (types_mentioned decl) h))) in
      λ i. name_faults unit decl ++ duplicate_faults decl ++ mixed_faults decl ++ types i ++ with_faults_of decl ++ literal_faults_of decl ++ recursion decl i

-- what a unit declares
iface_local : (a b : Sources) (unit : List ℕ) → Agree (near_of a unit) a b → iface_faults_of a unit ≡ iface_faults_of b unit
iface_local a b unit agree =
    declared_local a b unit (tree_at a unit) (λ name h. agree name (near_part a unit name h)) (recursion_local a b unit agree)
    ∙ ap (λ o. declaration_faults b unit (option_and_then tree_of o)) (agree unit (near_unit a unit))

pub faults_local : FaultsAreLocal
faults_local a b unit agree =
    let own = agree unit (near_unit a unit) in
    let declared = iface_local a b unit agree in
    let expressions = expr_faults_local a b unit agree in
    let charts = ecc_local a b unit agree in
    let networks = net_faults_local a b unit agree in
    λ i. faults_in_order (text_faults (own i) ++ declared i ++ expressions i ++ charts i ++ networks i ++ declared_mapping_faults (option_and_then tree_of (own i)))
