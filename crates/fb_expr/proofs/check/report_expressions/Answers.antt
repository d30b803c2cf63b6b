use Rattle.std.proofs.{Common.{◌≡◌, ◌++◌, ◌∙◌, ap, sym, append_assoc}, lemmas.List.Folds.{flat_map-map}, lemmas.Result.{on_ok_weaker}}
use Rattle.std.specs.List.{flat_map}
use Rattle.fb_tree.specs.Tree.{algorithm_tree, transition_tree}
use Rattle.fb_iface.specs.{CachedFields.{structures_in}, ScopeTypes.{scope_in}}
use Rattle.fb_expr.specs.{Names.{Names}, Charts.{algorithm_faults, transition_faults}}
use Rattle.fb_expr.proofs.check.report_expressions.Goals as goal

pub returns : goal.returns
returns c =
    let names : Names = record { scope = scope_in c.args.scope.now; fields = structures_in c.args.structures.now } in
    let chart = c.args.chart.now in
    let old = c.args.found.now.items in
    let guards : c.report_transitions.new.found.items ≡ old ++ flat_map (λ t. transition_faults names (transition_tree t)) chart.transitions.items = c.in_ok-report_transitions.ensures ∙ ap (λ l. old ++ flat_map (λ t. transition_faults names (transition_tree t)) l) c.as_slice.ensures.value in
    on_ok_weaker c.report_algorithms.result
    (λ e. e
    ∙ (λ i. guards i ++ flat_map (λ a. algorithm_faults names (algorithm_tree a)) (c.as_slice-2.ensures.value i))
    ∙ append_assoc old _ _
    ∙ (λ i. old ++ (sym (flat_map-map (transition_faults names) transition_tree chart.transitions.items) i ++ sym (flat_map-map (algorithm_faults names) algorithm_tree chart.algorithms.items) i)))
    c.report_algorithms.ensures
