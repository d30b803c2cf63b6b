-- The faults of a chart are those of its mirror without memory.
use Rattle.std.proofs.{Common.{◌≡◌, ℕ, Bool, List, ◌++◌, ◌∙◌, map, sym, ap}, lemmas.List.Folds.{flat_map-map}}
use Rattle.std.specs.List.{flat_map}
use Rattle.fb_tree.specs.{Tree.{algorithm_tree, chart_tree, state_tree, transition_tree}, declared.chart.Chart.{Chart}}
use Rattle.fb_iface.specs.{Names.{has_name}, Scope.{Scope}}
use Rattle.fb_iface.proofs.TreeLemmas.{same_items}
use Rattle.fb_ecc.specs.{Algorithms.{algorithm_faults, run_faults}, Events.{event_faults, sent_faults, trigger_faults}}
use Rattle.fb_ecc.specs.States.{transition_faults, state_faults}

pub states_joined : (chart : Chart) (listed : List ℕ → Bool) → ((name : List ℕ) → listed name ≡ has_name (map (λ s. s.name) chart.states.items) name) → flat_map (λ t. transition_faults listed (transition_tree t)) chart.transitions.items ≡ state_faults (chart_tree chart)
states_joined chart listed known =
    sym (flat_map-map (transition_faults listed) transition_tree chart.transitions.items)
    ∙ (λ i. flat_map (transition_faults (λ name. (known name ∙ ap (λ l. has_name l name) (sym (same_items state_tree (λ s. s.name) chart.states.items))) i)) (map transition_tree chart.transitions.items))

pub algorithms_joined : (chart : Chart) (declared : List ℕ → Bool) → ((name : List ℕ) → declared name ≡ has_name (map (λ a. a.name) chart.algorithms.items) name) → flat_map (λ s. flat_map (run_faults declared) (state_tree s).actions) chart.states.items ≡ algorithm_faults (chart_tree chart)
algorithms_joined chart declared known =
    sym (flat_map-map (λ s. flat_map (run_faults declared) s.actions) state_tree chart.states.items)
    ∙ (λ i. flat_map (λ s. flat_map (run_faults (λ name. (known name ∙ ap (λ l. has_name l name) (sym (same_items algorithm_tree (λ a. a.name) chart.algorithms.items))) i)) s.actions) (map state_tree chart.states.items))

pub events_joined : (scope : Scope) (chart : Chart) → flat_map (λ t. trigger_faults scope (transition_tree t)) chart.transitions.items ++ flat_map (λ s. flat_map (sent_faults scope) (state_tree s).actions) chart.states.items ≡ event_faults scope (chart_tree chart)
events_joined scope chart =
    λ i. sym (flat_map-map (trigger_faults scope) transition_tree chart.transitions.items) i ++ sym (flat_map-map (λ s. flat_map (sent_faults scope) s.actions) state_tree chart.states.items) i
