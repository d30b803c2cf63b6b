use Rattle.std.proofs.{Common.{◌≡◌, ◌++◌, ◌∙◌, ap, append_assoc}, lemmas.Result.{on_ok_weaker}}
use Rattle.std.specs.List.{flat_map}
use Rattle.fb_tree.specs.Tree.{state_tree, transition_tree}
use Rattle.fb_iface.specs.ScopeTypes.{scope_in}
use Rattle.fb_ecc.specs.Events.{sent_faults, trigger_faults}
use Rattle.fb_ecc.proofs.TreeLemmas.{events_joined}
use Rattle.fb_ecc.proofs.events.report_events.Goals as goal

pub returns : goal.returns
returns c =
    let chart = c.args.chart.now in
    let old = c.args.found.now.items in
    let scope = scope_in c.args.scope.now in
    let first : c.report_triggers.new.found.items ≡ old ++ flat_map (λ t. trigger_faults scope (transition_tree t)) chart.transitions.items = c.in_ok-report_triggers.ensures ∙ ap (λ l. old ++ flat_map (λ t. trigger_faults scope (transition_tree t)) l) c.as_slice.ensures.value in
    on_ok_weaker c.report_sent.result
    (λ e. e
    ∙ (λ i. first i ++ flat_map (λ s. flat_map (sent_faults scope) (state_tree s).actions) (c.as_slice-2.ensures.value i))
    ∙ append_assoc old _ _
    ∙ ap (λ l. old ++ l) (events_joined scope chart))
    c.report_sent.ensures
