-- What ends name, by the tests of the check.
use Rattle.fb_laws.proofs.Common.{◌≡◌, ℕ, true, List, Option, Some, None, refl, sym, ap, ◌∙◌, option_and_then, and_from, and_parts, NameUse, NetworkTree, Side, End, Sort, Sources, tree_at, DeclaredInstance, first_ones, stands_for, Meanings, instances_in, same_side, instance_ports, usable, Own, Position, Target, Unknown, NotChecked, Found, holder_of, is_right, port_in, right_side, target, target_held, target_in, target_named, target_of, target_of_instance, NetworkPlace, is_own, is_own_port, home_of, IsPort, IsReached, IsReachedBy, IsRightSide, NamesRight, Site, event, socket, plug, of_block_instance, of_subapplication_instance, of_plug, of_socket, own_port, port_of, own_source, own_destination, instance_source, instance_destination, plug_source, plug_destination, socket_source, socket_destination, IsNotJudged, of_unusable, arith, Holder, Port, ◌↔◌}
use Rattle.fb_laws.proofs.{Lists.{iff}, NetworkLemmas.{place_at}, UsableTypes.{declared_type, known_type, no_type, told_type, type_missing}}
use Rattle.fb_laws.specs.Ends.{Names, data_input, data_output}

-- ports

port_is : (ports : Meanings) (name : List ℕ) (sort : Sort) (p : Port) → port_in sort ports name ≡ Some p ↔ IsPort ports name sort p
port_is ports name sort p = iff (λ e. grind (arith, event, data_input, data_output, socket, plug)) (λ is. grind arith)

-- whose they are

holder_is : (here : Site) (sort : Sort) (i : DeclaredInstance) (holder : Holder) → holder_of here.kind sort i.role ≡ Some holder ↔ IsReached here sort i holder
holder_is here sort i holder = iff (λ e. grind (arith, of_block_instance, of_subapplication_instance, of_plug, of_socket)) (λ reached. grind arith)

-- what an end names, by its target

pub data IsTarget (sources : Sources) (here : Site) (sort : Sort) (name : NameUse) (port : Option NameUse) : Target → Type 0 where
  is_found : {holder : Holder} {p : Port} (unit : List ℕ) → Names sources here sort name port holder unit p → IsTarget sources here sort name port (Found holder p)
  is_not_judged : IsNotJudged sources here.own (IsReachedBy here sort) name port → IsTarget sources here sort name port NotChecked
  is_unknown : IsTarget sources here sort name port Unknown

module _ (sources : Sources) (here : Site) (n : NetworkTree) (own : here.own.instances ≡ first_ones (instances_in n)) (sort : Sort) where
  abbrev at : NetworkPlace
  at = place_at sources here n

  abbrev usable_as : DeclaredInstance → Option Meanings
  usable_as i = usable i.role (tree_at sources i.type_name.name)

  ports_there : (name : List ℕ) (i : DeclaredInstance) → stands_for here.own.instances name ≡ Some i → instance_ports at.scope i ≡ usable_as i
  ports_there name i g = declared_type sources n here.own.instances own name i g

  target_own : (X : NameUse) (o : Option Port) → port_in sort here.own X.name ≡ o → IsTarget sources here sort X None (target_of Own o)
  target_own X None e = is_unknown
  target_own X (Some p) e = is_found here.unit (own_port ((port_is here.own X.name sort p).0 e))

  target_behind : (I X : NameUse) (o : Option DeclaredInstance) → stands_for here.own.instances I.name ≡ o → IsTarget sources here sort I (Some X) (target_of_instance here.kind sort o (option_and_then (instance_ports at.scope) o) X.name)
  target_behind I X None g = is_unknown
  target_behind I X (Some i) g =
      (elim (holder_of here.kind sort i.role) as (λ h. holder_of here.kind sort i.role ≡ h → IsTarget sources here sort I (Some X) (target_held h sort (instance_ports at.scope i) X.name)) [ None ↦ λ e. is_unknown | Some holder ↦ λ e. by_ports holder ((holder_is here sort i holder).0 e) (instance_ports at.scope i) (sym (ports_there I.name i g)) ]) refl
    where
      by_ports : (holder : Holder) → IsReached here sort i holder → (m : Option Meanings) → usable_as i ≡ m → IsTarget sources here sort I (Some X) (target_in holder sort m X.name)
      by_ports holder r None u = is_not_judged (of_unusable i g (holder, r) (no_type sources i.type_name.name i.role u))
      by_ports holder r (Some m) u = (elim (port_in sort m X.name) as (λ o. port_in sort m X.name ≡ o → IsTarget sources here sort I (Some X) (target_of holder o)) [ None ↦ λ e. is_unknown | Some p ↦ λ e. is_found i.type_name.name (port_of i m g r (known_type sources i.type_name.name i.role m u) ((port_is m X.name sort p).0 e)) ]) refl

  pub is_target : (name : NameUse) (port : Option NameUse) → IsTarget sources here sort name port (target_named at sort name.name port)
  is_target name port = grind (arith, target_own, target_behind)

  behind : (I X : NameUse) (i : DeclaredInstance) (holder : Holder) (m : Option Meanings) → stands_for here.own.instances I.name ≡ Some i → IsReached here sort i holder → usable_as i ≡ m → target_named at sort I.name (Some X) ≡ target_in holder sort m X.name
  behind I X i holder m g r u =
      let ports = ports_there I.name i g ∙ u in
      grind (arith, holder_is)

  pub told_names : (name : NameUse) (port : Option NameUse) (holder : Holder) (unit : List ℕ) (p : Port) → Names sources here sort name port holder unit p → target_named at sort name.name port ≡ Found holder p
  told_names name None holder unit p (own_port q) = ap (target_of Own) ((port_is here.own name.name sort p).1 q)
  told_names I (Some X) holder unit p (port_of i m g r u q) = behind I X i holder (Some m) g r (told_type sources i.type_name.name i.role m u) ∙ ap (target_of holder) ((port_is m X.name sort p).1 q)

  pub told_not_judged : (name : NameUse) (port : Option NameUse) → IsNotJudged sources here.own (IsReachedBy here sort) name port → target_named at sort name.name port ≡ NotChecked
  told_not_judged name port q = grind (arith, type_missing)

  -- the unit in whose text the port is declared
  pub told_home : (name : NameUse) (port : Option NameUse) (holder : Holder) (unit : List ℕ) (p : Port) → Names sources here sort name port holder unit p → home_of at name port ≡ unit
  told_home name port holder unit p names = grind (arith, own_port, port_of)

  pub unknown_names : (name : NameUse) (port : Option NameUse) → target_named at sort name.name port ≡ Unknown → ((holder : Holder) (unit : List ℕ) (p : Port) → ¬ Names sources here sort name port holder unit p) × (¬ IsNotJudged sources here.own (IsReachedBy here sort) name port)
  unknown_names name port e = (λ holder unit p n. cc (told_names name port holder unit p n), λ n. cc (told_not_judged name port n))

  pub known_unknown : (name : NameUse) (port : Option NameUse) → ((holder : Holder) (unit : List ℕ) (p : Port) → ¬ Names sources here sort name port holder unit p) → ¬ IsNotJudged sources here.own (IsReachedBy here sort) name port → target_named at sort name.name port ≡ Unknown
  known_unknown name port none judged = grind (arith, is_target name port)

-- the right sides

ruleset sides = (instance_source, instance_destination, plug_source, plug_destination, socket_source, socket_destination)

pub known_right : (position : Position) (holder : Holder) (side : Side) → same_side side (right_side position holder) ≡ true → IsRightSide position holder side
known_right position holder side e = grind (arith, own_source, own_destination, sides)

pub told_right : (position : Position) (holder : Holder) (side : Side) → IsRightSide position holder side → same_side side (right_side position holder) ≡ true
told_right position holder side is = grind arith

-- ends that name ports of the right sides

module _ (sources : Sources) (here : Site) (n : NetworkTree) (own : here.own.instances ≡ first_ones (instances_in n)) (sort : Sort) (position : Position) (end : End) where
  abbrev there : Target
  there = target (place_at sources here n) sort end

  pub known_end : is_right position there ≡ true → NamesRight sources here sort position end
  known_end e = grind (arith, known_right, is_target sources here n own sort end.name end.port)

  pub end_target : (r : NamesRight sources here sort position end) → there ≡ Found r.holder r.port
  end_target r = told_names sources here n own sort end.name end.port r.holder r.unit r.port r.names

  pub told_end : NamesRight sources here sort position end → is_right position there ≡ true
  told_end r = ap (is_right position) (end_target r) ∙ told_right position r.holder r.port.side r.right

  -- own ones among them

  pub known_own : is_own_port position there ≡ true → (r : NamesRight sources here sort position end) × (r.holder ≡ Own)
  known_own e =
      let r = known_end (grind (arith, and_parts)) in
      let both = and_parts (is_own r.holder) (same_side r.port.side (right_side position r.holder)) (sym (ap (is_own_port position) (end_target r)) ∙ e) in
      (r, grind arith)

  pub told_own : (r : NamesRight sources here sort position end) → r.holder ≡ Own → is_own_port position there ≡ true
  told_own r e = ap (is_own_port position) (end_target r) ∙ and_from (is_own r.holder) (same_side r.port.side (right_side position r.holder)) (ap is_own e) (told_right position r.holder r.port.side r.right)
