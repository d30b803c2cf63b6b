-- The events of a type, and its plugs, sockets and instances in other roles.
use Rattle.fb_laws.proofs.Common.{◌≡◌, ◌↔◌, ℕ, ◌<◌, Bool, true, List, Option, Some, map, ap, NameUse, EventTree, InstanceTree, InterfaceTree, NetworkTree, Side, Role, DeclaredEvent, DeclaredInstance, first_ones, stands_for, events_in, instances_in, same_role, same_side, got_in_map, map_gets, IsEventOn, IsFirstEvent, IsFirstInstance, IsFirstItem, IsInstanceAs, IsItemOf, of_block, AdaptersAreDeclared, AreExactly, ComeAsDeclared, EventsAreDeclared, arith}
use Rattle.fb_laws.proofs.FirstLemmas.{IsFirst, among_ports, first_stands, in_turn, is_port, ports, stands_first}

-- what items mean is their sort and their type
record Meaning (D S T : Type 0) : Type 0 where
  sort : D → S
  type : D → T
  equal : (d e : D) → sort d ≡ sort e → type d ≡ type e → d ≡ e
  same : S → S → Bool
  exact : (a b : S) → same a b ≡ true → a ≡ b
  itself : (a : S) → same a a ≡ true

module _ {A D S T : Type 0} (of : Meaning D S T) (name_of : A → NameUse) (meaning_of : A → D) (items : List A) where
  abbrev sort_of : A → S
  sort_of x = of.sort (meaning_of x)

  abbrev type_of : A → T
  type_of x = of.type (meaning_of x)

  abbrev entry : A → List ℕ × D
  entry x = ((name_of x).name, meaning_of x)

  abbrev declared : List (List ℕ × D)
  declared = map entry items

  first_of : (name : List ℕ) (m : D) (o : IsFirst declared name m) → IsFirstItem name_of items name o.place
  first_of name m o = grind (arith, got_in_map, map_gets)

  item_of : (name : List ℕ) (m : D) → IsFirst declared name m → IsItemOf name_of sort_of type_of items (of.sort m) name (of.type m)
  unfolding first_of
  item_of name m o =
      let e = got_in_map entry items o.place (name, m) o.there in
      record {
        place = o.place;
        declared = first_of name m o;
        of_sort = ap (λ (p : List ℕ × D). of.sort p.1) e.2;
        typed = ap (λ (p : List ℕ × D). of.type p.1) e.2;
      }

  of_item : (name : List ℕ) (m : D) → IsItemOf name_of sort_of type_of items (of.sort m) name (of.type m) → IsFirst declared name m
  of_item name m h = grind (arith, map_gets, got_in_map)

  stand : (name : List ℕ) (m : D) → stands_for (first_ones declared) name ≡ Some m ↔ IsItemOf name_of sort_of type_of items (of.sort m) name (of.type m)
  stand name m = (λ e. item_of name m (stands_first declared name m e), λ h. first_stands declared name m (of_item name m h))

  module _ (sort : S) where
    abbrev keeps : D → Bool
    keeps d = of.same (of.sort d) sort

    are_exactly : AreExactly (ports keeps of.type declared) (IsItemOf name_of sort_of type_of items sort)
    are_exactly name type = (λ c. let o = is_port keeps of.type declared name type c in grind (arith, item_of), λ h. among_ports keeps of.type declared name type (grind (arith, of_item)))

    come_in_turn : ComeAsDeclared (ports keeps of.type declared) (IsFirstItem name_of items) (λ place later. place < later)
    come_in_turn j k one other before at_one at_other =
        let t = in_turn keeps of.type declared j k one other before at_one at_other in
        search first_of

-- events

pub same_sides : (a b : Side) → same_side a b ≡ true → a ≡ b
same_sides a b e = grind arith

pub side_itself : (a : Side) → same_side a a ≡ true
side_itself a = grind arith

abbrev of_events : Meaning DeclaredEvent Side (Option NameUse)
of_events = record {
  sort = λ d. d.side;
  type = λ d. d.type_name;
  equal = λ d e s t i. record { side = s i; type_name = t i };
  same = same_side;
  exact = same_sides;
  itself = side_itself;
}

abbrev event_meaning : EventTree → DeclaredEvent
event_meaning e = record { side = e.side; type_name = e.type_name }

pub events_stand : (i : InterfaceTree) (name : List ℕ) (m : DeclaredEvent) → stands_for (first_ones (events_in i)) name ≡ Some m ↔ IsEventOn i m.side name m.type_name
events_stand i = stand of_events (λ (e : EventTree). e.name) event_meaning i.events

pub events_in_turn : (i : InterfaceTree) (side : Side) → ComeAsDeclared (ports (λ (d : DeclaredEvent). same_side d.side side) (λ d. d.type_name) (events_in i)) (IsFirstEvent i) (λ place later. place < later)
events_in_turn i side = come_in_turn of_events (λ (e : EventTree). e.name) event_meaning i.events side

pub events_declared : EventsAreDeclared
events_declared decl type (of_block d) side = are_exactly of_events (λ (e : EventTree). e.name) event_meaning type.interface.events side
events_declared decl type is side = are_exactly of_events (λ (e : EventTree). e.name) event_meaning type.interface.events side

-- plugs, sockets, and instances in other roles

abbrev of_instances : Meaning DeclaredInstance Role NameUse
of_instances = record {
  sort = λ d. d.role;
  type = λ d. d.type_name;
  equal = λ d e s t i. record { role = s i; type_name = t i };
  same = same_role;
  exact = λ a b e. grind arith;
  itself = λ a. grind arith;
}

abbrev instance_meaning : InstanceTree → DeclaredInstance
instance_meaning i = record { role = i.role; type_name = i.type_name }

pub instances_stand : (n : NetworkTree) (name : List ℕ) (m : DeclaredInstance) → stands_for (first_ones (instances_in n)) name ≡ Some m ↔ IsInstanceAs n m.role name m.type_name
instances_stand n = stand of_instances (λ (x : InstanceTree). x.name) instance_meaning n.instances

pub adapters_in_turn : (n : NetworkTree) (role : Role) → ComeAsDeclared (ports (λ (d : DeclaredInstance). same_role d.role role) (λ d. d.type_name) (instances_in n)) (IsFirstInstance n) (λ place later. place < later)
adapters_in_turn n role = come_in_turn of_instances (λ (x : InstanceTree). x.name) instance_meaning n.instances role

pub adapters_declared : AdaptersAreDeclared
adapters_declared decl type (of_block d) role = are_exactly of_instances (λ (i : InstanceTree). i.name) instance_meaning type.network.instances role
adapters_declared decl type is role = are_exactly of_instances (λ (i : InstanceTree). i.name) instance_meaning type.network.instances role
