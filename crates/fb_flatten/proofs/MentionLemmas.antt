-- What a unit says as a network is within its mentions.
use Rattle.std.proofs.Common.{ℕ, ◌≡◌, List, ◌++◌, Option, Some, None, inl, inr, refl, sym, ◌∙◌, ap, subst, arith}
use Rattle.std.proofs.lemmas.{List.Elements.{Contains-append_cases}, Option.{get_or_from_slice_get, slice_get_within}}
use Rattle.std.specs.{Prelude.{Contains, map, filter, is_none, take}, List.{filter_map, enumerate_from}}
use Rattle.std.specs.{Cmp.Lexicographic.{nat_list_cmp_total}, FinMap.{slice_cmp-IsAntisymmetric, nat_cmp-IsAntisymmetric}}
use Rattle.fb_types.specs.{Text.Order.{name_cmp}, Text.declared.name.NameUse.{NameUse}}
use Rattle.fb_types.specs.Tree.Tree.{ApplicationTree, DeclTree, InstanceTree, TypeTree, block_type, adapter_type, subapplication_type, system_configuration}
use Rattle.fb_types.specs.Iface.Ports.{meanings_in_type, events_on, data_on, instances_as, instances_in as declared_instances, same_role}
use Rattle.fb_types.specs.{Tree.Mentions.{instance_types, parts_of, types_in}, Tree.declared.interface.Side.{Side}}
use Rattle.fb_types.specs.{Tree.declared.interface.Side.TheVariants.{Input, Output}, Tree.declared.network.Role.{Role}}
use Rattle.fb_types.specs.{Library.View.{Sources, tree_at, parts_at, parts_in}, Iface.Names.{first_ones, stands_for}}
use Rattle.fb_types.specs.{Iface.Ports.{DeclaredInstance}, Network.declared.network.Instance.{Instance}}
use Rattle.fb_types.specs.{Network.declared.network.Port.{Port}, Network.Plain.{PlainNetwork}, Applications.{applications_of, plain_application}}
use Rattle.fb_types.specs.{ByName.{applications_at, declared}, Networks.{instance_in_role, plain_instance, network_of, leaf}}
use Rattle.fb_types.specs.{Ports.{plain_ports, plain_event, plain_data, plain_adapter}, declared.systems.Application.{Application}, Units.{own_instances}}
use Rattle.fb_types.proofs.{Text.OrderLemmas.{in_order-members}, Iface.EarlierLemmas.{in_places}}
use Rattle.fb_types.proofs.Text.Members.{contains_nothing, contains_map, origin_in_map, contains_flat_map, origin_in_flat_map, passes_in_filter}
use Rattle.fb_types.specs.Tree.declared.network.Role.TheVariants as roles
use Rattle.fb_flatten.specs.Locality.{Within}
use Rattle.fb_flatten.proofs.NameLemmas.{mapped, origin_in_filter_map}

-- first declarations are declarations
in_first_ones : {D : Type 0} (declarations : List (List ℕ × D)) (y : List ℕ × D) → Contains (first_ones declarations) y → Contains declarations y
in_first_ones {D = D} declarations y c =
    let test = λ (placed : ℕ × (List ℕ × D)). is_none (stands_for (take placed.0 declarations) placed.1.0) in
    let o = origin_in_map (λ (placed : ℕ × (List ℕ × D)). placed.1) (filter test (enumerate_from 0 declarations)) y c in
    let p = passes_in_filter test (enumerate_from 0 declarations) o.origin o.among in
    let at = in_places 0 declarations o.origin p.among in
    rw (← o.gives) (at.0, slice_get_within declarations at.0 o.origin.1 at.2, get_or_from_slice_get declarations at.0 o.origin.1 o.origin.1 at.2)

type_kept : (role : Role) (name type_name : List ℕ) (i : Instance) → instance_in_role role name type_name ≡ Some i → type_name ≡ i.type_name
type_kept role name type_name i e = grind arith

-- an instance of a network has the type of one of the text
instance_mentioned : (instances : List InstanceTree) (i : Instance) → Contains (filter_map plain_instance instances) i → Contains (types_in instances) i.type_name
instance_mentioned instances i c =
    let g = origin_in_filter_map plain_instance instances i c in
    let it = g.origin in
    rw (← type_kept it.role it.name.name it.type_name.name i g.gives) (contains_map (λ (j : InstanceTree). j.type_name.name) instances it g.among)

adapter_mentioned : (side : Side) (role : Role) (d : TypeTree) (port : Port) (name : List ℕ) → Contains (map (plain_adapter side) (instances_as role (meanings_in_type d))) port → port.adapter ≡ Some name → Contains (types_in d.network.instances) name
adapter_mentioned side role d port name c e =
    let m = meanings_in_type d in
    let one = λ (i : List ℕ × DeclaredInstance). same_role i.1.role role in
    let a = origin_in_map (plain_adapter side) (instances_as role m) port c in
    let b = origin_in_map (λ (i : List ℕ × DeclaredInstance). (i.0, i.1.type_name)) (filter one m.instances) a.origin a.among in
    let p = passes_in_filter one m.instances b.origin b.among in
    let it = in_first_ones (declared_instances d.network) b.origin p.among in
    let t = origin_in_map (λ (i : InstanceTree). (i.name.name, let it : DeclaredInstance = record { role = i.role; type_name = i.type_name } in it)) d.network.instances b.origin it in
    let first : b.origin.1.type_name ≡ a.origin.1 = ap (λ (x : List ℕ × NameUse). x.1) b.gives in
    let second : t.origin.type_name ≡ b.origin.1.type_name = ap (λ (x : List ℕ × DeclaredInstance). x.1.type_name) t.gives in
    let third : Some a.origin.1.name ≡ port.adapter = ap (λ (x : Port). x.adapter) a.gives in
    let both : Some a.origin.1.name ≡ Some name = third ∙ e in
    let same : a.origin.1.name ≡ name = cc in
    subst (λ (n : List ℕ). Contains (types_in d.network.instances) n) (ap (λ (u : NameUse). u.name) (second ∙ first) ∙ same) (contains_map (λ (j : InstanceTree). j.type_name.name) d.network.instances t.origin t.among)

-- ports with no adapter
abbrev NoAdapters : List Port → Type 0
NoAdapters ports = (port : Port) → Contains ports port → port.adapter ≡ None

no_adapters : {X : Type 0} (f : X → Port) (xs : List X) → ((x : X) → (f x).adapter ≡ None) → NoAdapters (map f xs)
no_adapters f xs none port c = let o = origin_in_map f xs port c in ap (λ (x : Port). x.adapter) (sym o.gives) ∙ none o.origin

neither : (a b : List Port) → NoAdapters a → NoAdapters b → NoAdapters (a ++ b)
neither a b first second port c = elim (Contains-append_cases a b port c) [ inl h ↦ first port h | inr h ↦ second port h ]

port_mentioned : (d : TypeTree) (port : Port) (name : List ℕ) → Contains (plain_ports (meanings_in_type d)) port → port.adapter ≡ Some name → Contains (types_in d.network.instances) name
port_mentioned d port name c e =
    let m = meanings_in_type d in
    let a = map (plain_event Input) (events_on Input m) in
    let b = map (plain_event Output) (events_on Output m) in
    let v = map (plain_data Input) (data_on Input m) in
    let w = map (plain_data Output) (data_on Output m) in
    let plugs = map (plain_adapter Output) (instances_as roles.Plug m) in
    let sockets = map (plain_adapter Input) (instances_as roles.Socket m) in
    let events = neither a b (no_adapters (plain_event Input) (events_on Input m) (λ x. refl)) (no_adapters (plain_event Output) (events_on Output m) (λ x. refl)) in
    let data_inputs = neither (a ++ b) v events (no_adapters (plain_data Input) (data_on Input m) (λ x. refl)) in
    let none = neither (a ++ b ++ v) w data_inputs (no_adapters (plain_data Output) (data_on Output m) (λ x. refl)) in
    elim (Contains-append_cases (a ++ b ++ v ++ w ++ plugs) sockets port c) [
      | inr h ↦ adapter_mentioned Input roles.Socket d port name h e
      | inl h ↦ elim (Contains-append_cases (a ++ b ++ v ++ w) plugs port h) [
        | inr h ↦ adapter_mentioned Output roles.Plug d port name h e
        | inl h ↦ let no = none port h in absurd (let fails : ⊥ = cc in fails)
      ]
    ]

-- what is mentioned stands among the mentions
listed : (decl : DeclTree) (name : List ℕ) → Contains (instance_types decl) name → Contains (parts_of decl) name
listed decl name c = (in_order-members name_cmp nat_list_cmp_total (slice_cmp-IsAntisymmetric nat_cmp-IsAntisymmetric) (instance_types decl) name).1 c

-- a block type or an adapter type has ports alone
leaf_within : (decl : DeclTree) (d : TypeTree) → instance_types decl ≡ types_in d.network.instances → Within (Contains (parts_of decl)) (leaf d)
leaf_within decl d same =
    record {
      types = λ i c. absurd (contains_nothing i c);
      adapters = λ port name c e. listed decl name (rw same (port_mentioned d port name c e));
    }

network_within : (decl : DeclTree) → Within (Contains (parts_of decl)) (network_of decl)
network_within (block_type d) = leaf_within (block_type d) d refl
network_within (adapter_type d) = leaf_within (adapter_type d) d refl
network_within (subapplication_type d) =
    record {
      types = λ i c. listed (subapplication_type d) i.type_name (instance_mentioned d.network.instances i c);
      adapters = λ port name c e. listed (subapplication_type d) name (port_mentioned d port name c e);
    }
network_within other = record { types = λ i c. absurd (contains_nothing i c); adapters = λ port name c e. absurd (contains_nothing port c) }

-- the network of a declared unit is within its parts
pub declared_within : (sources : Sources) (name : List ℕ) (network : PlainNetwork) → declared sources name ≡ Some network → Within (Contains (parts_at sources name)) network
declared_within sources name network e =
    let m = mapped network_of (tree_at sources name) network e in
    rw (← m.2) (subst (λ (o : Option DeclTree). Within (Contains (parts_in o)) (network_of m.0)) (sym m.1) (network_within m.0))

own_mentioned : (decl : DeclTree) (i : Instance) → Contains (own_instances decl) i → Contains (parts_of decl) i.type_name
own_mentioned (subapplication_type d) i c = listed (subapplication_type d) i.type_name (instance_mentioned d.network.instances i c)
own_mentioned (system_configuration s) i c =
    let o = origin_in_flat_map (λ (a : Application). a.network.instances) (map plain_application s.applications) i c in
    let a = origin_in_map plain_application s.applications o.origin o.among in
    listed (system_configuration s) i.type_name (contains_flat_map (λ (x : ApplicationTree). types_in x.network.instances) s.applications a.origin i.type_name a.among (instance_mentioned a.origin.network.instances i (rw (← a.gives) at o.has)))
own_mentioned other i c = absurd (contains_nothing i c)

-- the types of a unit's own instances are among its parts
pub own_within : (sources : Sources) (unit : List ℕ) (decl : DeclTree) → tree_at sources unit ≡ Some decl → (i : Instance) → Contains (own_instances decl) i → Contains (parts_at sources unit) i.type_name
own_within sources unit decl t i c = rw t (own_mentioned decl i c)

plain_within : (decl : DeclTree) (a : Application) → Contains (applications_of decl) a → Within (Contains (parts_of decl)) a.network
plain_within (system_configuration s) a c =
    record {
      types = λ i h. own_mentioned (system_configuration s) i (contains_flat_map (λ (x : Application). x.network.instances) (applications_of (system_configuration s)) a i c h);
      adapters = λ port name h e. absurd (contains_nothing port (rw (← (origin_in_map plain_application s.applications a c).gives) at h));
    }
plain_within other a c = absurd (contains_nothing a c)

-- the networks of a system's applications are within its parts
pub applications_within : (sources : Sources) (unit : List ℕ) (applications : List Application) → applications_at sources unit ≡ Some applications → (a : Application) → Contains applications a → Within (Contains (parts_at sources unit)) a.network
applications_within sources unit applications e a c =
    let m = mapped applications_of (tree_at sources unit) applications e in
    rw m.1 (plain_within m.0 a (rw (← m.2) at c))
