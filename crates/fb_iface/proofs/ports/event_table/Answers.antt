use Rattle.std.proofs.{Common.{◌≡◌, ℕ, List, ◌+◌, ◌<◌, ◌∷◌, [], ◌++◌, length, map, sym, ap, ◌∙◌, arith, take}, lemmas.Grind.{common_steps}}
use Rattle.std.proofs.lemmas.List.{map-append, take_all}
use Rattle.fb_tree.specs.{Tree.{EventTree, event_tree}, declared.interface.Event.{Event}}
use Rattle.fb_iface.specs.{Ports.{DeclaredEvent}, Names.{first_ones, with_first, with_firsts}}
use Rattle.fb_iface.proofs.{TableLemmas.{firsts_all, with_firsts-push}, TreeLemmas.{same_items}}
use Rattle.fb_iface.proofs.ports.event_table.Goals as goal

pub loop-event-preserved : goal.loop-event-preserved
loop-event-preserved c =
    let meant : Event → List ℕ × DeclaredEvent = λ e. (e.name.name, record { side = e.side; type_name = e.type_name }) in
    let events = c.args.interface.now.events.items in
    let n = c.loop-event.event-index in
    let x = c.event-item.result in
    let slice : c.deref-event-items.result.now ≡ events = c.deref-event-items.ensures.value in
    let within : n < length events = omega (arith, ap length slice) in
    let more : take (n + 1) events ≡ take n events ++ x ∷ [] = grind (arith, common_steps) in
    c.in_ok-declare.ensures
    ∙ (λ i. with_first (c.loop-event.invariant i) (c.name.ensures i, record { side = x.side; type_name = x.type_name }))
    ∙ sym (with_firsts-push [] (map meant (take n events)) (meant x))
    ∙ ap (with_firsts []) (sym (ap (map meant) more ∙ map-append meant (take n events) (x ∷ [])))

pub returns : goal.returns
returns c =
    let meant : Event → List ℕ × DeclaredEvent = λ e. (e.name.name, record { side = e.side; type_name = e.type_name }) in
    let events = c.args.interface.now.events.items in
    let n = c.loop-event.event-index in
    let slice : c.deref-event-items.result.now ≡ events = c.deref-event-items.ensures.value in
    c.loop-event.invariant
    ∙ ap (λ es. with_firsts [] (map meant es)) (take_all n events (omega (arith, ap length slice, c.loop-event-test.false)))
    ∙ firsts_all (map meant events)
    ∙ ap first_ones (sym (same_items event_tree (λ (e : EventTree). (e.name.name, record { side = e.side; type_name = e.type_name })) events))
