use Rattle.std.proofs.{Common.{◌≡◌, ◌++◌, ◌∙◌, ℕ, List, ap, sym}, lemmas.List.{take_all}, lemmas.List.Folds.{flat_map-map}}
use Rattle.std.specs.List.{flat_map}
use Rattle.fb_tree.specs.Tree.{event_tree, interface_tree}
use Rattle.fb_iface.specs.{Names.{stands_for}, Ports.{variables_in}, Withs.{event_withs}}
use Rattle.fb_iface.proofs.TableLemmas.{stands_for-first_ones}
use Rattle.fb_iface.proofs.withs.report_in_interface.Goals as goal

pub returns : goal.returns
returns c =
    let interface = c.args.interface.now in
    let declared = variables_in (interface_tree interface) in
    let old = c.args.found.now.items in
    let names : (name : List ℕ) → stands_for c.args.own.now.variables name ≡ stands_for declared name = λ name. ap (λ l. stands_for l name) c.requires ∙ stands_for-first_ones declared name in
    c.loop-event.invariant
    ∙ (λ i. old ++ flat_map (λ e. event_withs (λ name. names name i) (event_tree e)) (take_all c.loop-event.event-index c.deref-event-items.result.now c.loop-event-test.false i))
    ∙ ap (λ es. old ++ flat_map (λ e. event_withs (stands_for declared) (event_tree e)) es) c.deref-event-items.ensures.value
    ∙ ap (λ l. old ++ l) (sym (flat_map-map (event_withs (stands_for declared)) event_tree interface.events.items))
