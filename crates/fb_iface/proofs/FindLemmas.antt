-- The first declaration of a name, found in a tree.
use Rattle.std.proofs.Common.{◌≡◌, ℕ, Bool, true, false, cond, ◌||◌, List, [], ◌∷◌, ◌++◌, map, refl, sym, ◌∙◌, Option, Some, option_map}
use Rattle.std.specs.List.{find, flat_map}
use Rattle.fb_tree.specs.Text.declared.name.NameUse.{NameUse}
use Rattle.fb_tree.specs.Tree.{TypeTree, event_tree, instance_tree, interface_tree, network_tree, variables_tree}
use Rattle.fb_tree.specs.{declared.interface.Event.{Event}, declared.interface.Interface.{Interface}, declared.interface.Variables.{Variables}}
use Rattle.fb_tree.specs.{declared.network.Instance.{Instance}, declared.network.Network.{Network}}
use Rattle.fb_iface.specs.{Names.{has_name, is_same, stands_for}, Ports.{DeclaredEvent, DeclaredInstance, DeclaredVariable, events_in, instances_in, variables_in, variables_together, meanings_in_type}}
use Rattle.fb_iface.proofs.TableLemmas.{stands_for-first_ones}

-- among the mirrors of declarations, each of one name
module _ {A B D : Type 0} (mirror : A → B) (name_of : B → List ℕ) (meaning : B → D) where
  abbrev declared_in : List A → List (List ℕ × D)
  declared_in xs = map (λ x. (name_of x, meaning x)) (map mirror xs)

  abbrev found_in : List A → List ℕ → Option D
  found_in xs q = option_map (λ x. meaning (mirror x)) (find (λ x. is_same (name_of (mirror x)) q) xs)

  stands_for-find : (xs : List A) (q : List ℕ) → stands_for (declared_in xs) q ≡ found_in xs q
  stands_for-find [] q = refl
  stands_for-find (x ∷ xs) q = by (is_same (name_of (mirror x)) q) (stands_for-find xs q)
    where
      by : (b : Bool) → stands_for (declared_in xs) q ≡ found_in xs q → cond b (Some (meaning (mirror x))) (stands_for (declared_in xs) q) ≡ option_map (λ x. meaning (mirror x)) (cond b (Some x) (find (λ x. is_same (name_of (mirror x)) q) xs))
      by true e = refl
      by false e = e

abbrev pub event_meaning : Event → DeclaredEvent
event_meaning e = record { side = e.side; type_name = e.type_name }

abbrev pub variable_meaning : Variables → DeclaredVariable
variable_meaning v = record { section = v.section; type_use = v.type_use }

abbrev pub instance_meaning : Instance → DeclaredInstance
instance_meaning i = record { role = i.role; type_name = i.type_name }

pub event_found : (interface : Interface) (q : List ℕ) → stands_for (events_in (interface_tree interface)) q ≡ option_map event_meaning (find (λ e. is_same e.name.name q) interface.events.items)
event_found interface q = stands_for-find event_tree (λ e. e.name.name) (λ e. record { side = e.side; type_name = e.type_name }) interface.events.items q

pub instance_found : (network : Network) (q : List ℕ) → stands_for (instances_in (network_tree network)) q ≡ option_map instance_meaning (find (λ i. is_same i.name.name q) network.instances.items)
instance_found network q = stands_for-find instance_tree (λ i. i.name.name) (λ i. record { role = i.role; type_name = i.type_name }) network.instances.items q

-- names that are declared together mean the same
stands_for-together : {D : Type 0} (names : List NameUse) (meaning : D) (later : List (List ℕ × D)) (q : List ℕ) → stands_for (map (λ n. (n.name, meaning)) names ++ later) q ≡ cond (has_name names q) (Some meaning) (stands_for later q)
stands_for-together [] meaning later q = refl
stands_for-together (n ∷ names) meaning later q = by (is_same n.name q) (stands_for-together names meaning later q)
  where
    by : (b : Bool) → stands_for (map (λ n. (n.name, meaning)) names ++ later) q ≡ cond (has_name names q) (Some meaning) (stands_for later q) → cond b (Some meaning) (stands_for (map (λ n. (n.name, meaning)) names ++ later) q) ≡ cond (b || has_name names q) (Some meaning) (stands_for later q)
    by true e = refl
    by false e = e

variable_found_in : (groups : List Variables) (q : List ℕ) → stands_for (flat_map variables_together (map variables_tree groups)) q ≡ option_map variable_meaning (find (λ v. has_name v.names.items q) groups)
variable_found_in [] q = refl
variable_found_in (v ∷ groups) q =
    stands_for-together v.names.items (variable_meaning v) (flat_map variables_together (map variables_tree groups)) q
    ∙ by (has_name v.names.items q) (variable_found_in groups q)
  where
    by : (b : Bool) → stands_for (flat_map variables_together (map variables_tree groups)) q ≡ option_map variable_meaning (find (λ v. has_name v.names.items q) groups) → cond b (Some (variable_meaning v)) (stands_for (flat_map variables_together (map variables_tree groups)) q) ≡ option_map variable_meaning (cond b (Some v) (find (λ v. has_name v.names.items q) groups))
    by true e = refl
    by false e = e

pub variable_found : (interface : Interface) (q : List ℕ) → stands_for (variables_in (interface_tree interface)) q ≡ option_map variable_meaning (find (λ v. has_name v.names.items q) interface.variables.items)
variable_found interface q = variable_found_in interface.variables.items q

-- what names stand for in the tree of a type
pub event_in_type : (d : TypeTree) (q : List ℕ) → stands_for (events_in d.interface) q ≡ stands_for (meanings_in_type d).events q
event_in_type d q = sym (stands_for-first_ones (events_in d.interface) q)

pub variable_in_type : (d : TypeTree) (q : List ℕ) → stands_for (variables_in d.interface) q ≡ stands_for (meanings_in_type d).variables q
variable_in_type d q = sym (stands_for-first_ones (variables_in d.interface) q)

pub instance_in_type : (d : TypeTree) (q : List ℕ) → stands_for (instances_in d.network) q ≡ stands_for (meanings_in_type d).instances q
instance_in_type d q = sym (stands_for-first_ones (instances_in d.network) q)
