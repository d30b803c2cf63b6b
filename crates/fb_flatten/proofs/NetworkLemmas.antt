-- A network without faults is clean in plain.
use Rattle.std.proofs.Common.{◌≡◌, ℕ, Bool, true, false, cond, ◌&&◌, List, [], map, Option, Some, None, option_map, refl, sym, ap, ◌∙◌, subst, true≢false, arith}
use Rattle.std.proofs.lemmas.List.Elements.{All-contains}
use Rattle.std.specs.{List.{All, Contains}, Option.{option_and_then}}
use Rattle.fb_types.specs.{Text.declared.name.NameUse.{NameUse}, Tree.Mentions.{unit_kind_of}, Tree.Tree.{DeclTree, InstanceTree, NetworkTree}}
use Rattle.fb_types.specs.{Tree.declared.interface.TypeUse.{TypeUse}, Tree.declared.kinds.UnitKind.{UnitKind}}
use Rattle.fb_types.specs.{Tree.declared.network.Connection.{Connection as ConnectionTree}, Tree.declared.network.End.{End as EndTree}}
use Rattle.fb_types.specs.{Tree.declared.network.Role.{Role}, Tree.declared.network.Sort.{Sort}, Library.View.{Sources, tree_at}}
use Rattle.fb_types.specs.{Iface.Names.{first_ones, has_name, is_same, stands_for}, Iface.Ports.{Meanings, instances_in, meanings_in}}
use Rattle.fb_types.specs.{Iface.Scope.{ports_of, type_ports_of, usable}, Iface.Types.{instance_faults, suits, type_fault}}
use Rattle.fb_types.specs.Iface.Ports.{DeclaredInstance}
use Rattle.fb_types.specs.Network.Clean.{IsDeclared, IsDestination, IsSource, adapter_name_at, port_named, side_at, type_of}
use Rattle.fb_types.specs.Networks.{end_named, instance_in_role, network_of, plain_connection, plain_end, plain_instance, plain_network}
use Rattle.fb_types.specs.{Network.Network.{IsConnected, View, instance_named, place_of}, Network.Plain.{PlainNetwork}, Network.declared.network.End.{End}}
use Rattle.fb_types.specs.{Network.declared.network.End.TheVariants.{Own, Of}, Network.declared.network.Instance.{Instance}}
use Rattle.fb_types.specs.{Network.declared.network.Port.{Port}, ByName.{declared, kind_at}}
use Rattle.fb_types.specs.Tree.declared.network.Role.TheVariants as roles
use Rattle.fb_types.specs.Tree.declared.network.Sort.TheVariants as sorts
use Rattle.fb_types.proofs.{Text.Members.{ComesFrom, origin_in_map}, Iface.NameLemmas.{same_exact}, Iface.TableLemmas.{stands_for-first_ones}}
use Rattle.fb_faults.specs.Netcheck.Clean.{AreRight, IsCleanConnection, IsCleanNetwork}
use Rattle.fb_faults.specs.Netcheck.Ends.{holder_of, is_right, port_in, right_side, target, target_held, target_in, target_named, target_of, target_of_instance}
use Rattle.fb_faults.specs.{Netcheck.Settings.{NetworkPlace}, Netcheck.Sides.{is_own_port}, Netcheck.Types.{flows_agree, same_at_ends, targets_agree}}
use Rattle.fb_faults.specs.{Netcheck.declared.ends.Flow.{Flow}, Netcheck.declared.ends.Holder.{Holder}, Netcheck.declared.ends.Port.{Port as JudgedPort}}
use Rattle.fb_faults.specs.{Netcheck.declared.ends.Position.{Position}, Netcheck.declared.ends.Position.TheVariants.{Source, Destination}}
use Rattle.fb_faults.specs.{Netcheck.declared.ends.Target.{Target}, Netcheck.declared.ends.Target.TheVariants.{Found}}
use Rattle.fb_faults.specs.Netcheck.declared.ends.Flow.TheVariants as flows
use Rattle.fb_faults.specs.Netcheck.declared.ends.Holder.TheVariants as holders
use Rattle.fb_flatten.specs.Clean.{IsCleanWithKinds, wanted_kind}
use Rattle.fb_flatten.proofs.{NameLemmas.{Distinct, found_by_name, origin_in_filter_map, stands_for_itself}, PortLemmas.{declared_port, plain_flow, plain_port}}

-- instances in plain

-- what is declared as an instance, by its name
abbrev pub meaning : InstanceTree → DeclaredInstance
meaning i = record { role = i.role; type_name = i.type_name }

abbrev made : List ℕ → DeclaredInstance → Option Instance
made name d = instance_in_role d.role name d.type_name.name

-- an instance in plain has its name, its type and its kind
record IsMade (role : Role) (name type_name : List ℕ) (i : Instance) : Type 0 where
  named : name ≡ i.name
  typed : type_name ≡ i.type_name
  kind : (type : UnitKind) → suits role type ≡ true → type ≡ wanted_kind i.kind

made_in_role : (role : Role) (name type_name : List ℕ) (i : Instance) → instance_in_role role name type_name ≡ Some i → IsMade role name type_name i
made_in_role role name type_name i e = grind arith

-- the type of an instance without faults
has_type : (sources : Sources) (role : Role) (name : NameUse) → type_fault role name (tree_at sources name.name) ≡ [] → (type : DeclTree) × (tree_at sources name.name ≡ Some type) × (suits role (unit_kind_of type) ≡ true)
has_type sources role name e = grind arith

-- ends

-- what an end without faults names: a port of its sort, by the holder and the name
abbrev holder_at : End → Holder
holder_at (Own port) = holders.Own
holder_at (Of instance port) = holders.OfInstance

abbrev name_at : End → List ℕ
name_at (Own port) = port
name_at (Of instance port) = port

abbrev HasFlow : Sort → Flow → Type 0
HasFlow sorts.Event flow = Unit {0}
HasFlow sorts.Data flow = Unit {0}
HasFlow sorts.Adapter flows.Event = ⊥
HasFlow sorts.Adapter (flows.Data used) = ⊥
HasFlow sorts.Adapter (flows.Adapter name) = Unit {0}

flow_of_port : (sort : Sort) (m : Meanings) (name : List ℕ) (p : JudgedPort) → port_in sort m name ≡ Some p → HasFlow sort p.flow
flow_of_port sort m name p e = grind arith

same_flow : (same : TypeUse → TypeUse → Bool) (a b : Flow) → HasFlow sorts.Adapter a → HasFlow sorts.Adapter b → flows_agree same a b ≡ true → plain_flow a ≡ plain_flow b
same_flow same (flows.Adapter a) (flows.Adapter b) first second e = ap Some (same_exact a.name b.name e)
same_flow same a b first second e = grind arith

-- the port at an end of a connection of the network itself
abbrev port_at : View → PlainNetwork → Sort → End → Option Port
port_at view network sort (Own port) = port_named network.ports sort port
port_at view network sort (Of instance port) = option_and_then (λ type. port_named type.ports sort port) (type_of view network instance)

side_there : (view : View) (network : PlainNetwork) (sort : Sort) (e : End) → side_at view sort network (place_of e) ≡ option_map (λ p. p.side) (port_at view network sort e)
side_there view network sort e = grind arith

adapter_there : (view : View) (network : PlainNetwork) (e : End) → adapter_name_at view network (place_of e) ≡ option_and_then (λ p. p.adapter) (port_at view network sorts.Adapter e)
adapter_there view network e = grind arith

-- an end names a port of the right side, and this is the one in plain
record Meets (view : View) (network : PlainNetwork) (sort : Sort) (t : Target) (e : End) : Type 0 where
  port : JudgedPort
  is : t ≡ Found (holder_at e) port
  found : port_at view network sort e ≡ Some (plain_port sort (name_at e) port)
  flow : HasFlow sort port.flow

right_port : (position : Position) (holder : Holder) (port : JudgedPort) (t : Target) → t ≡ Found holder port → is_right position t ≡ true → port.side ≡ right_side position holder
right_port position holder port t is e = grind arith

-- a port is found where a target is right
is_port : (position : Position) (holder : Holder) (o : Option JudgedPort) → is_right position (target_of holder o) ≡ true → (port : JudgedPort) × (o ≡ Some port) × (target_of holder o ≡ Found holder port)
is_port position holder o e = grind arith

-- the types of the instances have no faults
abbrev pub TypesAreFine : Sources → NetworkTree → Type 0
TypesAreFine sources n = (i : InstanceTree) → Contains n.instances i → instance_faults sources i ≡ []

module _ (sources : Sources) (here : NetworkPlace) (n : NetworkTree) (ports : List Port) where
  abbrev network : PlainNetwork
  network = plain_network ports n

  abbrev view : View
  view = declared sources

  instance_by_name : Distinct (instances_in n) → (name : List ℕ) → instance_named network.instances name ≡ option_and_then (made name) (stands_for (instances_in n) name)
  instance_by_name distinct name =
      found_by_name (λ (i : Instance). is_same i.name name) name (λ (i : InstanceTree). i.name.name) meaning plain_instance (made name)
      (λ i e. ap (λ q. instance_in_role i.role q i.type_name.name) e)
      (λ i p e. ap (λ q. is_same q name) (sym (made_in_role i.role i.name.name i.type_name.name p e).named))
      n.instances distinct

  named : Distinct (instances_in n) → (i : Instance) → Contains network.instances i → instance_named network.instances i.name ≡ Some i
  named distinct i c =
      let o = origin_in_filter_map plain_instance n.instances i c in
      let m = made_in_role o.origin.role o.origin.name.name o.origin.type_name.name i o.gives in
      instance_by_name distinct i.name
      ∙ ap (λ q. option_and_then (made i.name) (stands_for (instances_in n) q)) (sym m.named)
      ∙ ap (option_and_then (made i.name)) (stands_for_itself (λ (x : InstanceTree). x.name) meaning n.instances distinct o.origin o.among)
      ∙ ap (λ q. instance_in_role o.origin.role q o.origin.type_name.name) (sym m.named)
      ∙ o.gives

  typed : TypesAreFine sources n → (i : Instance) → Contains network.instances i → IsDeclared view i.type_name
  typed none i c =
      let o = origin_in_filter_map plain_instance n.instances i c in
      let m = made_in_role o.origin.role o.origin.name.name o.origin.type_name.name i o.gives in
      let t = has_type sources o.origin.role o.origin.type_name (none o.origin o.among) in
      record { type = network_of t.0; declared = ap view (sym m.typed) ∙ ap (option_map network_of) t.1 }

  of_kind : TypesAreFine sources n → (i : Instance) → Contains network.instances i → kind_at sources i.type_name ≡ Some (wanted_kind i.kind)
  of_kind none i c =
      let o = origin_in_filter_map plain_instance n.instances i c in
      let m = made_in_role o.origin.role o.origin.name.name o.origin.type_name.name i o.gives in
      let t = has_type sources o.origin.role o.origin.type_name (none o.origin o.among) in
      ap (kind_at sources) (sym m.typed) ∙ ap (option_map unit_kind_of) t.1 ∙ ap Some (m.kind (unit_kind_of t.0) t.2)

  -- a port of an instance, by the declaration of its type
  meets_type : (position : Position) (sort : Sort) (instance port : List ℕ) (role : Role) (decl : Option DeclTree) (mentioned : Bool) → type_of view network instance ≡ option_map network_of decl → is_right position (target_in holders.OfInstance sort (usable role (cond mentioned decl None)) port) ≡ true → Meets view network sort (target_in holders.OfInstance sort (usable role (cond mentioned decl None)) port) (Of instance port)
  meets_type position sort instance port role decl false type e = absurd (true≢false (sym e))
  meets_type position sort instance port role None true type e = absurd (true≢false (sym e))
  meets_type position sort instance port role (Some decl) true type e = by (suits role (unit_kind_of decl)) e
    where
      by : (b : Bool) → is_right position (target_in holders.OfInstance sort (cond b (Some (meanings_in decl)) None) port) ≡ true → Meets view network sort (target_in holders.OfInstance sort (cond b (Some (meanings_in decl)) None) port) (Of instance port)
      by false e = absurd (true≢false (sym e))
      by true e =
          let p = is_port position holders.OfInstance (port_in sort (meanings_in decl) port) e in
          record {
            port = p.0;
            is = p.2;
            found = ap (option_and_then (λ (t : PlainNetwork). port_named t.ports sort port)) type ∙ declared_port decl sort port ∙ ap (option_map (plain_port sort port)) p.1;
            flow = flow_of_port sort (meanings_in decl) port p.0 p.1;
          }

  module _ (distinct : Distinct (instances_in n)) (own : here.scope.own.instances ≡ first_ones (instances_in n)) (types : here.scope.type_ports ≡ type_ports_of sources n) (no_plug : (sort : Sort) → holder_of here.kind sort roles.Plug ≡ None) (no_socket : (sort : Sort) → holder_of here.kind sort roles.Socket ≡ None) (own_port : (sort : Sort) (name : List ℕ) → port_named ports sort name ≡ option_map (plain_port sort name) (port_in sort here.scope.own name)) where
    -- what the name of an instance stands for
    abbrev judged : Sort → Option DeclaredInstance → List ℕ → Target
    judged sort o port = target_of_instance here.kind sort o (option_and_then (λ i. type_ports_of sources n i.role i.type_name.name) o) port

    judged_there : (sort : Sort) (instance port : List ℕ) → target_of_instance here.kind sort (stands_for here.scope.own.instances instance) (ports_of here.scope instance) port ≡ judged sort (stands_for (instances_in n) instance) port
    judged_there sort instance port =
        let first : stands_for here.scope.own.instances instance ≡ stands_for (instances_in n) instance = ap (λ l. stands_for l instance) own ∙ stands_for-first_ones (instances_in n) instance in
        λ k. target_of_instance here.kind sort (first k) (option_and_then (λ (i : DeclaredInstance). types k i.role i.type_name.name) (first k)) port

    -- an instance of this role
    abbrev held : Sort → Role → List ℕ → List ℕ → Target
    held sort role name port = target_held (holder_of here.kind sort role) sort (type_ports_of sources n role name) port

    not_held : (position : Position) (sort : Sort) (role : Role) (name port : List ℕ) → holder_of here.kind sort role ≡ None → is_right position (held sort role name port) ≡ true → ⊥
    not_held position sort role name port none e = true≢false (sym e ∙ ap (λ h. is_right position (target_held h sort (type_ports_of sources n role name) port)) none)

    meets_role : (position : Position) (sort : Sort) (instance port name : List ℕ) (role : Role) → type_of view network instance ≡ option_and_then (λ i. view i.type_name) (instance_in_role role instance name) → is_right position (held sort role name port) ≡ true → Meets view network sort (held sort role name port) (Of instance port)
    meets_role position sort instance port name roles.Plug type e = absurd (not_held position sort roles.Plug name port (no_plug sort) e)
    meets_role position sort instance port name roles.Socket type e = absurd (not_held position sort roles.Socket name port (no_socket sort) e)
    meets_role position sort instance port name role type e = meets_type position sort instance port role (tree_at sources name) (has_name (map (λ (x : InstanceTree). x.type_name) n.instances) name) type e

    meets_instance : (position : Position) (sort : Sort) (instance port : List ℕ) (o : Option DeclaredInstance) → type_of view network instance ≡ option_and_then (λ i. view i.type_name) (option_and_then (made instance) o) → is_right position (judged sort o port) ≡ true → Meets view network sort (judged sort o port) (Of instance port)
    meets_instance position sort instance port None type e = absurd (true≢false (sym e))
    meets_instance position sort instance port (Some i) type e = meets_role position sort instance port i.type_name.name i.role type e

    meets : (position : Position) (sort : Sort) (name : NameUse) (port : Option NameUse) → is_right position (target_named here sort name.name port) ≡ true → Meets view network sort (target_named here sort name.name port) (end_named name port)
    meets position sort name None e =
        let p = is_port position holders.Own (port_in sort here.scope.own name.name) e in
        record {
          port = p.0;
          is = p.2;
          found = own_port sort name.name ∙ ap (option_map (plain_port sort name.name)) p.1;
          flow = flow_of_port sort here.scope.own name.name p.0 p.1;
        }
    meets position sort name (Some port) e =
        let there = judged_there sort name.name port.name in
        subst (λ (t : Target). Meets view network sort t (Of name.name port.name)) (sym there)
        (meets_instance position sort name.name port.name (stands_for (instances_in n) name.name) (ap (option_and_then (λ (i : Instance). view i.type_name)) (instance_by_name distinct name.name)) (sym (ap (is_right position) there) ∙ e))

    abbrev at_end : Position → Sort → EndTree → Type 0
    at_end position sort end = Meets view network sort (target here sort end) (plain_end end)

    side_right : (position : Position) (sort : Sort) (end : EndTree) → is_right position (target here sort end) ≡ true → side_at view sort network (place_of (plain_end end)) ≡ Some (right_side position (holder_at (plain_end end)))
    side_right position sort end e =
        let m = meets position sort end.name end.port e in
        side_there view network sort (plain_end end)
        ∙ ap (option_map (λ (p : Port). p.side)) m.found
        ∙ ap Some (right_port position (holder_at (plain_end end)) m.port (target here sort end) m.is e)

    is_source : (sort : Sort) (e : End) → side_at view sort network (place_of e) ≡ Some (right_side Source (holder_at e)) → IsSource view sort network e
    is_source sort e h = grind arith

    is_destination : (sort : Sort) (e : End) → side_at view sort network (place_of e) ≡ Some (right_side Destination (holder_at e)) → IsDestination view sort network e
    is_destination sort e h = grind arith

    -- the connection that a connection in plain comes from
    comes : {sort : Sort} {s d : End} (k : IsConnected network sort s d) → ComesFrom plain_connection n.connections k.connection
    comes k = origin_in_map plain_connection n.connections k.connection k.among

    module _ (right : All (AreRight here) n.connections) (fine : IsCleanNetwork sources here n) (none : TypesAreFine sources n) (passes : (c : ConnectionTree) (x : List ℕ) → Contains n.connections c → plain_end c.source ≡ Own x → (is_own_port Source (target here c.sort c.source) && is_own_port Destination (target here c.sort c.destination)) ≡ false) where
      right_at : (c : ConnectionTree) → Contains n.connections c → AreRight here c
      right_at c among = All-contains (AreRight here) n.connections c right among

      sources_right : (sort : Sort) (s d : End) → IsConnected network sort s d → IsSource view sort network s
      sources_right sort s d k =
          let o = comes k in
          let c = o.origin in
          rw (← k.sorted, ← k.source, ← o.gives) (is_source c.sort (plain_end c.source) (side_right Source c.sort c.source (right_at c o.among).0))

      destinations_right : (sort : Sort) (s d : End) → IsConnected network sort s d → IsDestination view sort network d
      destinations_right sort s d k =
          let o = comes k in
          let c = o.origin in
          rw (← k.sorted, ← k.destination, ← o.gives) (is_destination c.sort (plain_end c.destination) (side_right Destination c.sort c.destination (right_at c o.among).1))

      -- the adapter's name at both ends
      one_adapter : (c : ConnectionTree) (sort : Sort) → c.sort ≡ sort → sort ≡ sorts.Adapter → Contains n.connections c → adapter_name_at view network (place_of (plain_end c.source)) ≡ adapter_name_at view network (place_of (plain_end c.destination))
      one_adapter c sort is adapter among =
          let a : c.sort ≡ sorts.Adapter = is ∙ adapter in
          let r = right_at c among in
          let s = meets Source sorts.Adapter c.source.name c.source.port (ap (λ k. is_right Source (target here k c.source)) (sym a) ∙ r.0) in
          let d = meets Destination sorts.Adapter c.destination.name c.destination.port (ap (λ k. is_right Destination (target here k c.destination)) (sym a) ∙ r.1) in
          let agree = (All-contains (IsCleanConnection sources here) n.connections c fine.connections among).one_type r.0 r.1 in
          let flows_same : flows_agree (same_at_ends sources here c) s.port.flow d.port.flow ≡ true = (λ i. targets_agree (same_at_ends sources here c) (sym s.is i) (sym d.is i)) ∙ (λ i. targets_agree (same_at_ends sources here c) (target here (sym a i) c.source) (target here (sym a i) c.destination)) ∙ agree in
          adapter_there view network (plain_end c.source)
          ∙ ap (option_and_then (λ (p : Port). p.adapter)) s.found
          ∙ same_flow (same_at_ends sources here c) s.port.flow d.port.flow s.flow d.flow flows_same
          ∙ sym (ap (option_and_then (λ (p : Port). p.adapter)) d.found)
          ∙ sym (adapter_there view network (plain_end c.destination))

      adapters_same : (s d : End) → IsConnected network sorts.Adapter s d → adapter_name_at view network (place_of s) ≡ adapter_name_at view network (place_of d)
      adapters_same s d k = let o = comes k in rw (← k.source, ← k.destination, ← o.gives) (one_adapter o.origin sorts.Adapter (ap (λ c. c.sort) o.gives ∙ k.sorted) refl o.among)

      own_right : (position : Position) (sort : Sort) (end : EndTree) (x : List ℕ) → plain_end end ≡ Own x → is_right position (target here sort end) ≡ true → is_own_port position (target here sort end) ≡ true
      own_right position sort end x own e =
          let m = meets position sort end.name end.port e in
          let is : target here sort end ≡ Found holders.Own m.port = m.is ∙ ap (λ h. Found (holder_at h) m.port) own in
          ap (is_own_port position) is ∙ sym (ap (is_right position) is) ∙ e

      passes_nothing : (sort : Sort) (x y : List ℕ) → IsConnected network sort (Own x) (Own y) → ⊥
      passes_nothing sort x y k =
          let o = comes k in
          let c = o.origin in
          let r = right_at c o.among in
          let from : plain_end c.source ≡ Own x = ap (λ q. q.source) o.gives ∙ k.source in
          let first = own_right Source c.sort c.source x from r.0 in
          let second = own_right Destination c.sort c.destination y (ap (λ q. q.destination) o.gives ∙ k.destination) r.1 in
          true≢false ((λ i. sym first i && sym second i) ∙ passes c x o.among from)

      pub sound : IsCleanWithKinds sources network
      sound = record {
        clean = record {
          named = named distinct;
          typed = typed none;
          sources = sources_right;
          destinations = destinations_right;
          same_adapters = adapters_same;
          no_pass_through = passes_nothing;
        };
        kinds = of_kind none;
      }
