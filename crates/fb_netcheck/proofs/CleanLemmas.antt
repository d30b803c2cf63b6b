-- Networks without faults are clean.
use Rattle.std.proofs.Common.{◌≡◌, ℕ, Bool, true, false, cond, ◌&&◌, not, List, [], ◌∷◌, ◌++◌, Option, Some, None, map, refl}
use Rattle.std.proofs.lemmas.List.Elements.{All-cons, All-map, All-nil}
use Rattle.std.specs.List.{All, flat_map}
use Rattle.fb_tree.specs.Tree.{DeclTree, NetworkTree, block_type, adapter_type, subapplication_type, system_configuration, structure_type}
use Rattle.fb_tree.specs.{declared.kinds.UnitKind.{UnitKind}, declared.kinds.UnitKind.TheVariants.{Block, Adapter, Subapplication, System, Structure}}
use Rattle.fb_tree.specs.{declared.network.Connection.{Connection}, declared.network.End.{End}}
use Rattle.fb_iface.specs.{Library.View.{Sources, tree_at}, Ports.{same_side}, declared.fault.Fault.{Fault}}
use Rattle.fb_netcheck.specs.{declared.ends.Position.{Position}, declared.ends.Position.TheVariants.{Source, Destination}, declared.ends.Target.{Target}}
use Rattle.fb_netcheck.specs.declared.ends.Target.TheVariants.{Unknown, NotChecked, Found}
use Rattle.fb_netcheck.specs.{Clean.{IsCleanConnection, IsCleanEnd, IsCleanNetwork, FaultlessNetworksAreClean, PassesNothing}, Connections.{connection_faults}}
use Rattle.fb_netcheck.specs.{Ends.{is_right, right_side, target}, Networks.{application_place, network_faults, networks_in, tree_faults}}
use Rattle.fb_netcheck.specs.{Parameters.{all_parameters}, Paths.{repeated}}
use Rattle.fb_netcheck.specs.{Repeats.{all_adapter_ends, data_destinations, end_path, second_adapters, second_sources}, Settings.{NetworkPlace}}
use Rattle.fb_netcheck.specs.{Sides.{end_faults, is_own_port, pass_through_faults}, Types.{joined_types, same_at_ends, targets_agree}}

pub left_none : {A : Type 0} (xs ys : List A) → xs ++ ys ≡ [] → xs ≡ []
left_none [] ys e = refl
left_none (x ∷ xs) ys e = absurd (let no : ⊥ = cc in no)

pub right_none : {A : Type 0} (xs ys : List A) → xs ++ ys ≡ [] → ys ≡ []
right_none [] ys e = e
right_none (x ∷ xs) ys e = absurd (let no : ⊥ = cc in no)

none_mapped : {A B : Type 0} (f : A → B) (xs : List A) → map f xs ≡ [] → xs ≡ []
none_mapped f [] e = refl
none_mapped f (x ∷ xs) e = absurd (let no : ⊥ = cc in no)

pub none_of_each : {A B : Type 0} (f : A → List B) (xs : List A) → flat_map f xs ≡ [] → All (λ x. f x ≡ []) xs
none_of_each f [] e = All-nil (λ x. f x ≡ [])
none_of_each f (x ∷ xs) e =
    All-cons (λ x. f x ≡ []) x xs (left_none (f x) (flat_map f xs) e) (none_of_each f xs (right_none (f x) (flat_map f xs) e))

no_fault : (b : Bool) (fault : Fault) → cond b [] (fault ∷ []) ≡ [] → b ≡ true
no_fault true fault e = refl
no_fault false fault e = absurd (let no : ⊥ = cc in no)

clean_end : (position : Position) (end : End) (t : Target) → end_faults position end t ≡ [] → IsCleanEnd position t
clean_end position end Unknown e = absurd (let no : ⊥ = cc in no)
clean_end position end NotChecked e = tt
clean_end position end (Found holder port) e = no_fault (same_side port.side (right_side position holder)) _ e

no_pass : (b : Bool) (fault : Fault) → cond b (fault ∷ []) [] ≡ [] → b ≡ false
no_pass true fault e = absurd (let no : ⊥ = cc in no)
no_pass false fault e = refl

clean_passage : (kind : UnitKind) (c : Connection) (source destination : Target) → pass_through_faults kind c source destination ≡ [] → PassesNothing kind source destination
clean_passage Block c source destination e = tt
clean_passage Adapter c source destination e = tt
clean_passage Subapplication c source destination e = no_pass (is_own_port Source source && is_own_port Destination destination) _ e
clean_passage System c source destination e = tt
clean_passage Structure c source destination e = tt

one_type : (source destination same : Bool) (fault : Fault) → cond ((source && destination) && not same) (fault ∷ []) [] ≡ [] → source ≡ true → destination ≡ true → same ≡ true
one_type source destination true fault e s d = refl
one_type true true false fault e s d = absurd (let no : ⊥ = cc in no)
one_type true false false fault e s d = d
one_type false destination false fault e s d = s

module _ (sources : Sources) (here : NetworkPlace) where
  clean_connection : (c : Connection) → connection_faults here c ≡ [] → joined_types sources here c ≡ [] → IsCleanConnection sources here c
  clean_connection c none types =
      let source = target here c.sort c.source in
      let destination = target here c.sort c.destination in
      let first = end_faults Source c.source source in
      let second = end_faults Destination c.destination destination in
      let third = pass_through_faults here.kind c source destination in
      let ends : first ++ second ≡ [] = left_none (first ++ second) third none in
      record {
        source_side = clean_end Source c.source source (left_none first second ends);
        destination_side = clean_end Destination c.destination destination (right_none first second ends);
        one_type = one_type (is_right Source source) (is_right Destination destination) (targets_agree (same_at_ends sources here c) source destination) _ types;
        passes_nothing = clean_passage here.kind c source destination (right_none (first ++ second) third none);
      }

  pub clean_network : (n : NetworkTree) → network_faults sources here n ≡ [] → IsCleanNetwork sources here n
  clean_network n none =
      let sides = flat_map (connection_faults here) n.connections in
      let types = flat_map (joined_types sources here) n.connections in
      let sources_twice = second_sources n.connections in
      let adapters_twice = second_adapters n.connections in
      let prefix = left_none (((sides ++ types) ++ sources_twice) ++ adapters_twice) (all_parameters here.scope n.instances) none in
      let three = left_none ((sides ++ types) ++ sources_twice) adapters_twice prefix in
      let two = left_none (sides ++ types) sources_twice three in
      let each_side = none_of_each (connection_faults here) n.connections (left_none sides types two) in
      let each_type = none_of_each (joined_types sources here) n.connections (right_none sides types two) in
      record {
        connections = λ k c within. clean_connection _ (each_side k c within) (each_type k c within);
        one_source = none_mapped _ (repeated (map end_path (data_destinations n.connections))) (right_none (sides ++ types) sources_twice three);
        one_adapter = none_mapped _ (repeated (map end_path (all_adapter_ends n.connections))) (right_none ((sides ++ types) ++ sources_twice) adapters_twice prefix);
      }

abbrev Clean : Sources → NetworkPlace × NetworkTree → Type 0
Clean sources placed = IsCleanNetwork sources placed.0 placed.1

clean_networks : (sources : Sources) (unit : List ℕ) (tree : Option DeclTree) → tree_faults sources unit tree ≡ [] → All (Clean sources) (networks_in sources unit tree)
clean_networks sources unit None none = All-nil (Clean sources)
clean_networks sources unit (Some (block_type d)) none = All-cons (Clean sources) _ [] (clean_network sources _ d.network none) (All-nil (Clean sources))
clean_networks sources unit (Some (adapter_type d)) none = All-nil (Clean sources)
clean_networks sources unit (Some (subapplication_type d)) none = All-cons (Clean sources) _ [] (clean_network sources _ d.network none) (All-nil (Clean sources))
clean_networks sources unit (Some (system_configuration s)) none =
    All-map (Clean sources) (application_place sources unit) s.applications (λ k a within. clean_network sources _ _ (none_of_each _ s.applications none k a within))
clean_networks sources unit (Some (structure_type s)) none = All-nil (Clean sources)

pub networks_clean : FaultlessNetworksAreClean
networks_clean sources unit none = clean_networks sources unit (tree_at sources unit) none
