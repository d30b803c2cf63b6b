use Rattle.std.proofs.{Common.{◌≤◌, ◌++◌, ◌∙◌, append-nil, ap, length, map, sym, arith}, lemmas.List.{length-map}}
use Rattle.fb_tree.specs.{Tree.{interface_tree}, declared.interface.Event.{Event}}
use Rattle.fb_iface.specs.{Fault.{faults_at}, Names.{first_ones}, Ports.{events_in}, declared.code.Code.TheVariants.{Duplicate}}
use Rattle.fb_iface.proofs.CountLemmas.{events_as_named, events_named, none_again}
use Rattle.fb_iface.proofs.repeats.report_events.Goals as goal

pub returns-else-different-len : goal.returns-else-different-len
returns-else-different-len c =
    let interface = c.args.interface.now in
    let events = interface.events.items in
    let names = map (λ (e : Event). e.name) events in
    let old = c.args.found.now.items in
    let declared = events_in (interface_tree interface) in
    let many : length names ≤ length (first_ones declared) = omega (arith, length-map events (λ (e : Event). e.name), c.if-different-len.false, c.len.ensures, c.requires) in
    sym (append-nil old)
    ∙ ap (λ l. old ++ faults_at Duplicate l) (sym (none_again declared names (events_named (interface_tree interface) ∙ events_as_named events) many))
